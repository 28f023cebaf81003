use Rattle.std.proofs.Common.{subst}
use Rattle.std.specs.Prelude.{IfSome, IfNone}
use Rattle.gh_ast.specs.Plain.{assertion_of}
use Rattle.gh_assert.specs.Stores.{store_of}
use Rattle.gh_lens.specs.Takings.{conjuncts, LeavesOver}
use Rattle.gh_scene.specs.Spare.{LeavesNothing}
use Rattle.gh_scene.proofs.Leaving.{passes_on, found_here, none_found}
use Rattle.gh_scene.proofs.spare.left_over.Goals as goal

pub loop-alternative-init : goal.loop-alternative-init
loop-alternative-init c = λ rest later. later

pub returns-in-Some : goal.returns-in-Some
returns-in-Some c =
    let x = c.alternative-item.result in
    let s = store_of c.args.store.now in
    let h = c.args.heap.now in
    let leaves : LeavesOver (conjuncts (assertion_of x)) s h c.in-Some.rest =
    subst (λ o. IfSome o (LeavesOver (conjuncts (assertion_of x)) s h)) c.in-Some.is c.in_ok-rest.ensures.some in
    found_here c.args.alternatives.now c.loop-alternative.alternative-index x s h c.in-Some.rest
    c.loop-alternative-test.true c.alternative-item.is leaves c.loop-alternative.invariant

pub loop-alternative-preserved : goal.loop-alternative-preserved
loop-alternative-preserved c =
    let x = c.alternative-item.result in
    let s = store_of c.args.store.now in
    let h = c.args.heap.now in
    let none : LeavesNothing (assertion_of x) s h =
    subst (λ o. IfNone o (LeavesNothing (assertion_of x) s h)) c.in_default.is c.in_ok-rest.ensures.none in
    passes_on c.args.alternatives.now c.loop-alternative.alternative-index x s h c.loop-alternative-test.true
    c.alternative-item.is none c.loop-alternative.invariant

pub returns : goal.returns
returns c =
    none_found c.args.alternatives.now c.loop-alternative.alternative-index (store_of c.args.store.now) c.args.heap.now
    c.new.result c.loop-alternative-test.false c.new.ensures c.loop-alternative.invariant

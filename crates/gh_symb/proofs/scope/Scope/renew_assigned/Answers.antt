use Rattle.std.proofs.Common.{◌≡◌, ◌∙◌, [], sym, ap, true, drop, filter, ◌+◌}
use Rattle.std.proofs.Math.ListN.{drop_of_length-le}
use Rattle.gh_ast.specs.Plain.{statements_view}
use Rattle.gh_ast.specs.Programs.{names}
use Rattle.gh_path.specs.Terms.{renewed, some_assigns}
use Rattle.gh_symb.specs.Tables.{state}
use Rattle.gh_symb.proofs.StepLemmas.{renewed_here}
use Rattle.gh_symb.proofs.scope.Scope.renew_assigned.Goals as goal

pub loop-occ-preserved : goal.loop-occ-preserved
loop-occ-preserved c = λ v.
    let test = some_assigns (statements_view c.args.body.now) in
    let o = c.occ-item.result in
    let i = c.loop-occ.occ-index in
    let holds : test o.name ≡ true =
    sym (rw c.bytes.ensures.text at c.some_assigns.ensures) ∙ c.if-not-some_assigns.false in
    ap (renewed (filter test (names (drop (i + 1) c.args.occs.now)))) (c.in_ok-renew_one.ensures v)
    ∙ renewed_here test c.args.occs.now i o c.loop-occ-test.true c.occ-item.is holds
    (state c.loop-occ.kinds c.loop-occ.self v)
    ∙ c.loop-occ.invariant v

pub returns : goal.returns
returns c = λ v.
    let none : drop c.loop-occ.occ-index c.args.occs.now ≡ [] =
    drop_of_length-le c.args.occs.now c.loop-occ-test.false in
    rw none at (c.loop-occ.invariant v)

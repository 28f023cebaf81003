use Rattle.gh_ast.specs.Plain.{assertion_of}
use Rattle.gh_assert.specs.Stores.{store_of}
use Rattle.gh_lens.specs.Takings.{conjuncts, IsBlockedAt, LeavesOver}
use Rattle.gh_scene.proofs.Leaving.{blocked_leave_none}
use Rattle.gh_scene.proofs.spare.left_by.Goals as goal

pub returns-in-Whole-clause-some : goal.returns-in-Whole-clause-some
returns-in-Whole-clause-some c =
    let leaves : LeavesOver (conjuncts (assertion_of c.args.assertion.now)) (store_of c.args.store.now) c.args.heap.now
    c.in-Whole.rest = rw (c.in-Whole.is, c.conjuncts.ensures) at c.in_ok-rest.ensures in
    leaves

pub returns-clause-none : goal.returns-clause-none
returns-clause-none c r leaves =
    let f = assertion_of c.args.assertion.now in
    let s = store_of c.args.store.now in
    let h = c.args.heap.now in
    let g = assertion_of c.in-Blocked.conjunct.now in
    let block : IsBlockedAt (conjuncts f) s h g c.in-Blocked.rest =
    rw (c.in-Blocked.is, c.conjuncts.ensures) at c.in_ok-rest.ensures in
    blocked_leave_none (conjuncts f) s h g c.in-Blocked.rest r block leaves

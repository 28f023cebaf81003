use Rattle.std.proofs.lemmas.Result.{IfOk-weaker}
use Rattle.gh_ast.specs.Plain.{assertion_of}
use Rattle.gh_assert.specs.Stores.{store_of}
use Rattle.gh_lens.specs.Takings.{conjuncts, IsBlockedAt, LeavesOver}
use Rattle.gh_lens.specs.Misses.{IsMiss, blocked, left_over}
use Rattle.gh_lens.proofs.misses.miss.Goals as goal

pub returns-in_ok-reason-in-Blocked : goal.returns-in_ok-reason-in-Blocked
returns-in_ok-reason-in-Blocked c =
    let f = assertion_of c.args.assertion.now in
    let s = store_of c.args.store.now in
    let h = c.args.heap.now in
    let g = assertion_of c.in-Blocked.conjunct.now in
    let block : IsBlockedAt (conjuncts f) s h g c.in-Blocked.rest =
    rw (c.in-Blocked.is, c.conjuncts.ensures) at c.in_ok-conjunct.ensures in
    IfOk-weaker c.blocked_line.result _ (IsMiss f s h)
    (λ t e. blocked g c.in-Blocked.rest c.in_ok-reason-in-Blocked.reason block c.in_ok-reason-in-Blocked.ensures e)
    c.blocked_line.ensures

pub returns-in-Whole : goal.returns-in-Whole
returns-in-Whole c =
    let f = assertion_of c.args.assertion.now in
    let s = store_of c.args.store.now in
    let h = c.args.heap.now in
    let leaves : LeavesOver (conjuncts f) s h c.in-Whole.rest =
    rw (c.in-Whole.is, c.conjuncts.ensures) at c.in_ok-conjunct.ensures in
    IfOk-weaker c.left_line.result _ (IsMiss f s h) (λ t e. left_over c.in-Whole.rest leaves e) c.left_line.ensures

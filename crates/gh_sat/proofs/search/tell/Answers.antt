use Rattle.gh_sat.proofs.TheoryLemmas.{free_at}
use Rattle.gh_sat.proofs.search.tell.Goals as goal

pub assert-requires-clause-free : goal.assert-requires-clause-free
assert-requires-clause-free g c =
    free_at c.args.search.now (g.T.Theory.asserted c.loop-place.theory) c.steps-steps.result.now c.loop-place.place _
    c.steps-steps.ensures.sound c.steps-steps.ensures.steps c.loop-place-test.true c.loop-place.invariant.told

use Rattle.gh_sat.proofs.TheoryLemmas.{beside_nothing}
use Rattle.gh_sat.proofs.search.Search.new.Goals as goal

pub invariant_of-result : goal.invariant_of-result
invariant_of-result g c =
    beside_nothing g.T.Theory.valid (g.T.Theory.asserted c.args.theory) (g.T.Theory.sizes c.args.theory)
    c.args.ground.now.sizes c.args.ground.now.clauses c.in_ok-search.search c.in_ok-search.ensures.over c.requires.none
    c.requires.sizes

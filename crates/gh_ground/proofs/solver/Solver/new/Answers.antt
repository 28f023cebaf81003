use Rattle.gh_ground.proofs.KeptLemmas.{kept_first}
use Rattle.gh_ground.proofs.solver.Solver.new.Goals as goal

pub returns-clause-lines : goal.returns-clause-lines
returns-clause-lines c =
    kept_first c.args.ground.now c.in_ok-search.search c.in_ok-lines.lines c.sizes-sizes.ensures.valid
    c.in_ok-search.ensures.over c.in_ok-lines.ensures.clauses c.in_ok-lines.ensures.of_kind
    c.in_ok-lines.ensures.version

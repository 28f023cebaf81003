use Rattle.std.proofs.Common.{◌∙◌}
use Rattle.gh_sat.specs.Status.{IsSatisfiedOrFalse}
use Rattle.gh_sat.proofs.NeededLemmas.{clause_more, all_taken}
use Rattle.gh_sat.proofs.needed.first_needed.Goals as goal

pub loop-clause-preserved : goal.loop-clause-preserved
loop-clause-preserved c =
    clause_more c.args.trail.now.steps c.args.clauses.now c.loop-clause.clause-index c.clause-item.result
    c.lits.result.now c.needed_in-found.result c.loop-clause-test.true c.loop-clause.invariant
    (c.lits.ensures ∙ c.clause-item.is)
    c.needed_in-found.ensures.none (let e = c.is_some.ensures in let f = c.if-is_some.false in cc)

pub returns-clause-none : goal.returns-clause-none
returns-clause-none c =
    all_taken (IsSatisfiedOrFalse c.args.trail.now.steps) c.args.clauses.now c.loop-clause.clause-index
    c.loop-clause-test.false c.loop-clause.invariant

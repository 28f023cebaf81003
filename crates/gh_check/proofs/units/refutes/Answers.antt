use Rattle.std.proofs.Common.{◌≡◌, Some, true, subst}
use Rattle.gh_base.specs.Assignments.{value_of}
use Rattle.gh_sat.specs.Trail.{IsTruth, IsTrueIn}
use Rattle.gh_check.proofs.AssumingLemmas.{true_refutes, refuting_if, assumed_if}
use Rattle.gh_check.proofs.units.refutes.Goals as goal

pub returns-in-Some-true-clause-refuting : goal.returns-in-Some-true-clause-refuting
returns-in-Some-true-clause-refuting c =
    let s = c.args.search.now in
    let e : value_of c.assignment.result.now c.args.lit ≡ Some true = cc in
    let t : IsTrueIn s.trail c.args.lit =
    subst (IsTruth s.trail c.args.lit) e (c.assignment.ensures.tells c.args.lit c.requires.range) in
    λ yes. true_refutes s c.args.lit t

pub returns-in-None-clause-refuting : goal.returns-in-None-clause-refuting
returns-in-None-clause-refuting c =
    refuting_if c.args.search.now c.assume.new.self c.propagate.new.self _ c.negated.result c.propagate.result
    c.is_some.result c.negated.ensures c.assume.ensures.opens c.propagate.ensures.moves
    c.propagate.ensures.conflict c.is_some.ensures

pub returns-in-None-clause-assumed : goal.returns-in-None-clause-assumed
returns-in-None-clause-assumed c =
    assumed_if c.args.search.now c.assume.new.self c.propagate.new.self _ c.negated.result c.propagate.result
    c.is_some.result c.negated.ensures c.assume.ensures.opens c.propagate.ensures.moves
    c.propagate.ensures.settled c.propagate.ensures.sound c.is_some.ensures

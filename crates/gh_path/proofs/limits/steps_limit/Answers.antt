use Rattle.std.proofs.Common.{refl, arith, map, subst, length, ◌≡◌}
use Rattle.gh_ast.specs.Plain.{procedure_of}
use Rattle.gh_path.specs.Admitted.{HasManySteps}
use Rattle.gh_path.proofs.PassedLemmas.{IsLong, steps_told, NoneBefore, first_limit, none_of}
use Rattle.gh_path.proofs.limits.steps_limit.Goals as goal

pub returns-then-ahead : goal.returns-then-ahead
returns-then-ahead c = λ P.
    first_limit (HasManySteps P) IsLong (steps_told P) c.args.procedures.now c.args.aheads.now c.requires
    c.loop-place.place c.index-procedures-place.result _ 5 _ _ (omega arith) c.loop-place.invariant c.if-ahead.true
    refl refl refl

pub returns : goal.returns
returns c = λ P.
    let end : c.loop-place.place ≡ length c.args.aheads.now = omega arith in
    none_of (HasManySteps P) IsLong (steps_told P) (map procedure_of c.args.procedures.now) c.args.aheads.now c.requires
    (subst (NoneBefore IsLong c.args.aheads.now) end c.loop-place.invariant)

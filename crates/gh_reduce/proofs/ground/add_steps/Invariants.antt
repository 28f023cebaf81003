use Rattle.std.proofs.Common.{◌≡◌, ◌<◌, map, drop}
use Rattle.gh_symb.specs.Formulas.{steps_formulas}
use Rattle.gh_symb.specs.Encodings.{plain_kind}
use Rattle.gh_reduce.specs.Growth.{stated_in}
use Rattle.gh_symb.specs.Inside.{step_of, AreStepsInside}
use Rattle.gh_reduce.proofs.ground.add_steps.Given as goal

abbrev pub invariant-loop-step : goal.invariant-loop-step
invariant-loop-step l = record {
  state : stated_in l.ground
      (steps_formulas (map plain_kind l.terms) l.version (map step_of (drop l.step-index l.steps)))
      ≡ stated_in l.initial.ground (steps_formulas (map plain_kind l.terms) 0 (map step_of l.steps));
  terms : l.ground.sizes.terms ≡ l.initial.ground.sizes.terms;
  versions : l.ground.sizes.versions ≡ l.initial.ground.sizes.versions;
  version : l.version < l.ground.sizes.versions;
  inside : AreStepsInside l.ground.sizes.terms l.ground.sizes.versions l.version
      (map step_of (drop l.step-index l.steps));
}

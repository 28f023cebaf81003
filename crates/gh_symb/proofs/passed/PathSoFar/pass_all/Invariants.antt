use Rattle.std.proofs.Common.{◌≤◌, drop, map}
use Rattle.gh_path.specs.Kept.{step_of, condition_of}
use Rattle.gh_symb.specs.Passing.{HasPassed}
use Rattle.gh_symb.proofs.passed.PathSoFar.pass_all.Given as goal

abbrev pub invariant-loop-step : goal.invariant-loop-step
invariant-loop-step l = record {
  few : l.walker.version ≤ l.step-index;
  left : HasPassed l.context (map step_of (drop l.step-index l.step-items)) (condition_of l.condition) l.walker l.self;
}

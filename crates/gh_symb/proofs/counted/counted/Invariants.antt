use Rattle.std.proofs.Common.{◌≤◌, drop, map}
use Rattle.gh_ast.specs.Plain.{program_of}
use Rattle.gh_path.specs.Kept.{step_of, condition_of}
use Rattle.gh_symb.specs.Remaining.{Remains}
use Rattle.gh_symb.specs.Contexts.{procedure_in}
use Rattle.gh_symb.specs.Walkers.{terms_at}
use Rattle.gh_symb.proofs.counted.counted.Given as goal

abbrev pub invariant-loop-step : goal.invariant-loop-step
invariant-loop-step l = record {
  few : l.walker.version ≤ l.step-index;
  left : Remains (program_of l.typed) (procedure_in l.context) (map step_of (drop l.step-index l.step-items))
      (condition_of l.condition) (terms_at l.walker);
}

use Rattle.std.proofs.Common.{◌≡◌, ◌++◌, drop, flat_map, map}
use Rattle.gh_path.specs.Kept.{check_of, condition_of, step_of}
use Rattle.gh_session.specs.Numbering.{listed}
use Rattle.gh_session.specs.Essences as plain
use Rattle.gh_session.proofs.essence.procedures_of.Given as goal

abbrev pub invariant-loop-step : goal.invariant-loop-step
invariant-loop-step l =
    listed l.numbers.items (flat_map plain.callees_in (map step_of (drop l.step-index l.step-items))
    ++ plain.callees_at (check_of l.condition.check)) ≡ plain.procedures_of (condition_of l.condition)

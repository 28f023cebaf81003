use Rattle.std.proofs.Common.{◌≡◌, map, take}
use Rattle.gh_path.specs.Kept.{step_of}
use Rattle.gh_session.specs.Essences as plain
use Rattle.gh_session.specs.Views.{step_view}
use Rattle.gh_session.proofs.essence.steps_in.Given as goal

abbrev pub invariant-loop-step : goal.invariant-loop-step
invariant-loop-step l =
    map step_view l.whole.items ≡ map (plain.step_in l.procedures l.loops) (map step_of (take l.step-index l.steps))

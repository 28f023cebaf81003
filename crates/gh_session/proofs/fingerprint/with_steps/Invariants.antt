use Rattle.std.proofs.Common.{◌≡◌, map, drop}
use Rattle.gh_session.specs.Fingerprint as plain
use Rattle.gh_session.specs.Views.{step_view}
use Rattle.gh_session.proofs.fingerprint.with_steps.Given as goal

abbrev pub invariant-loop-step : goal.invariant-loop-step
invariant-loop-step l =
    plain.over plain.with_step l.mixed (map step_view (drop l.step-index l.steps))
    ≡ plain.counted plain.with_step l.hash (map step_view l.steps)

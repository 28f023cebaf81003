use Rattle.std.proofs.Common.{◌≡◌, ◌↔◌, map, drop}
use Rattle.gh_session.specs.Views.{step_view}
use Rattle.gh_session.proofs.compare.are_same_steps.Given as goal

abbrev pub invariant-loop-one : goal.invariant-loop-one
invariant-loop-one l =
    (map step_view (drop l.one-index l.some) ≡ map step_view l.left) ↔ (map step_view l.some ≡ map step_view l.others)

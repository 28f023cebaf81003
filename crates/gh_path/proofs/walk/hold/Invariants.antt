use Rattle.std.proofs.Common.{◌≡◌, map, take}
use Rattle.gh_path.specs.Shown.{AreHeld}
use Rattle.gh_path.proofs.walk.hold.Given as goal

abbrev pub invariant-loop-place : goal.invariant-loop-place
invariant-loop-place l = record {
  these : take l.place l.held.items ≡ map (λ t. t.origin) (take l.place l.taken);
  held : AreHeld l.nodes l.initial.held.items l.initial.steps.items → AreHeld l.nodes l.held.items l.steps.items;
}

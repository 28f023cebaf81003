use Rattle.std.proofs.Common.{◌≡◌, drop}
use Rattle.gh_trace.specs.Left.{left}
use Rattle.gh_trace.proofs.heaps.take_all.Given as goal

abbrev pub invariant-loop-place : goal.invariant-loop-place
invariant-loop-place l = left l.remaining.1 (drop l.place-index l.places) ≡ left l.initial.remaining.1 l.places

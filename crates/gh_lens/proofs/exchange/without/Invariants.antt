use Rattle.std.proofs.Common.{◌≡◌, drop}
use Rattle.gh_trace.specs.Left.{left}
use Rattle.gh_lens.proofs.exchange.without.Given as goal

abbrev pub invariant-loop-place : goal.invariant-loop-place
invariant-loop-place l = left l.rest (drop l.place-index l.places) ≡ left l.heap l.places

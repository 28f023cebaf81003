use Rattle.std.proofs.Common.{◌≡◌}
use Rattle.std.specs.FinMap.{len}
use Rattle.gh_assert.proofs.Taking.{GoesOn, FromTo}
use Rattle.gh_assert.proofs.meaning.take_segment.Given as goal

abbrev pub invariant-loop-at : goal.invariant-loop-at
invariant-loop-at l = record {
  whole : l.remaining.0 ≡ l.initial.remaining.0;
  goes : GoesOn (FromTo l.fn.from l.to) (FromTo l.at l.to) l.initial.remaining.1 l.remaining.1;
}

abbrev pub decreases-loop-at : goal.decreases-loop-at
decreases-loop-at l = len l.remaining.1

use Rattle.std.proofs.Common.{◌≡◌, length, take}
use Rattle.std.specs.Prelude.{vec_capacity}
use Rattle.gh_cc.specs.Uses.{AreUses, AreCounts}
use Rattle.gh_cc.proofs.uses.forget.Given as goal

abbrev pub invariant-loop-mentions : goal.invariant-loop-mentions
invariant-loop-mentions l = record {
  uses : AreUses l.mentions.items l.last.items;
  counts : AreCounts l.mentions.items l.counts.items (length l.last.items);
  front : take l.fn.len l.mentions.items ≡ take l.fn.len l.initial.mentions.items;
  capacity : vec_capacity l.mentions ≡ vec_capacity l.initial.mentions;
  long : length l.last.items ≡ length l.initial.last.items;
}

abbrev pub decreases-loop-mentions : goal.decreases-loop-mentions
decreases-loop-mentions l = length l.mentions.items

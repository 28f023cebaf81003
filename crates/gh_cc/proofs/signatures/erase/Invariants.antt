use Rattle.std.proofs.Common.{◌≡◌, length, take}
use Rattle.std.specs.Prelude.{vec_capacity}
use Rattle.gh_cc.specs.Signatures.{AreSignatures}
use Rattle.gh_cc.proofs.signatures.erase.Given as goal

abbrev pub invariant-loop-entries : goal.invariant-loop-entries
invariant-loop-entries l = record {
  signatures : AreSignatures l.table.items l.entries.items (vec_capacity l.entries);
  front : take l.fn.len l.entries.items ≡ take l.fn.len l.initial.entries.items;
  long : length l.table.items ≡ length l.initial.table.items;
}

abbrev pub decreases-loop-entries : goal.decreases-loop-entries
decreases-loop-entries l = length l.entries.items

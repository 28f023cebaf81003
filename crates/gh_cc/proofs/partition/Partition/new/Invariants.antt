use Rattle.std.proofs.Common.{◌≡◌, All, length}
use Rattle.gh_cc.proofs.partition.Partition.new.Given as goal

abbrev pub invariant-loop-t : goal.invariant-loop-t
invariant-loop-t l = record {
  rows : length l.saved.items ≡ l._t;
  long : All (λ row. length row ≡ l.terms) l.saved.items;
}

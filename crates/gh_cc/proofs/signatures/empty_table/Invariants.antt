use Rattle.std.proofs.Common.{◌≡◌, None, All, length}
use Rattle.gh_cc.specs.Signatures.{free_places}
use Rattle.gh_cc.proofs.signatures.empty_table.Given as goal

abbrev pub invariant-loop-number : goal.invariant-loop-number
invariant-loop-number l = record {
  long : length l.table.items ≡ l._number;
  free : free_places l.table.items ≡ l._number;
  none : All (λ x. x ≡ None) l.table.items;
}

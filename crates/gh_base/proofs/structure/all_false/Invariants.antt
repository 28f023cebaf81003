use Rattle.std.proofs.Common.{◌≡◌, false, All, length}
use Rattle.gh_base.proofs.structure.all_false.Given as goal

abbrev pub invariant-loop-number : goal.invariant-loop-number
invariant-loop-number l = (length l.table.items ≡ l._number) × All (λ x. x ≡ false) l.table.items

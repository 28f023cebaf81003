use Rattle.std.proofs.Common.{◌≡◌, None, All, length}
use Rattle.gh_base.proofs.assignment.no_values.Given as goal

abbrev pub invariant-loop-number : goal.invariant-loop-number
invariant-loop-number l = (length l.values.items ≡ l._number) × All (λ x. x ≡ None) l.values.items

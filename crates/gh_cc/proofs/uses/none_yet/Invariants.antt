use Rattle.std.proofs.Common.{◌≡◌, All, length}
use Rattle.gh_cc.proofs.uses.none_yet.Given as goal

abbrev pub invariant-loop-t : goal.invariant-loop-t
invariant-loop-t l = (length l.last.items ≡ l._t) × All (λ n. n ≡ 0) l.last.items

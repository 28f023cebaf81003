use Rattle.std.proofs.Common.{◌≡◌, ◌↔◌, drop}
use Rattle.gh_session.proofs.compare.are_same_exprs.Given as goal

abbrev pub invariant-loop-one : goal.invariant-loop-one
invariant-loop-one l = (drop l.one-index l.some ≡ l.left) ↔ (l.some ≡ l.others)

use Rattle.std.proofs.Common.{◌≡◌}
use Rattle.gh_check.proofs.TruthLemmas.{WalksTo}
use Rattle.gh_check.proofs.hints.Truths.walk_hints.Given as goal

abbrev pub invariant-loop-hint : goal.invariant-loop-hint
invariant-loop-hint l = record {
  sizes : l.self.sizes ≡ l.fn.self.sizes;
  follows : WalksTo l.kept l.hints l.fn.self.lits l.hint-index l.self.lits;
}

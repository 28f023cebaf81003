use Rattle.std.proofs.Common.{◌≡◌, ◌++◌}
use Rattle.gh_check.proofs.TruthLemmas.{WalksTo}
use Rattle.gh_check.proofs.root_units.walk_hints.Given as goal

abbrev pub invariant-loop-hint : goal.invariant-loop-hint
invariant-loop-hint l = record {
  sizes : l.above.sizes ≡ l.fn.above.sizes;
  follows : WalksTo l.kept l.hints (l.fixed.lits ++ l.fn.above.lits) l.hint-index (l.fixed.lits ++ l.above.lits);
}

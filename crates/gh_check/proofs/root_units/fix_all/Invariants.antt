use Rattle.std.proofs.Common.{◌≡◌}
use Rattle.gh_check.specs.Kept.{present}
use Rattle.gh_check.specs.RootUnits.{AreGivenBy}
use Rattle.gh_check.proofs.root_units.fix_all.Given as goal

abbrev pub invariant-loop-position : goal.invariant-loop-position
invariant-loop-position l = record {
  sizes : l.fixed.sizes ≡ l.fn.fixed.sizes;
  given : AreGivenBy (present l.kept.clauses) l.fn.fixed.lits → AreGivenBy (present l.kept.clauses) l.fixed.lits;
}

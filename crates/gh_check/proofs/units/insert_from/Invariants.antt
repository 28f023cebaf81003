use Rattle.std.proofs.Common.{◌≡◌, [], take}
use Rattle.gh_check.specs.Kept.{present}
use Rattle.gh_check.proofs.units.insert_from.Given as goal

abbrev pub invariant-loop-position : goal.invariant-loop-position
invariant-loop-position l = record {
  clauses : l.search.clauses ≡ present (take l.position l.kept.clauses);
  sizes : l.search.sizes ≡ l.fn.search.sizes;
  level : l.search.starts ≡ [];
}

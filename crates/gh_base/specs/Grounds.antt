-- Ground clauses: numbers of terms, versions and definitions, and a list of clauses over them.
use Rattle.std.specs.Prelude.{◌≤◌, List, All, length}
use Rattle.gh_base.specs.declared.atom.Lit.{Lit}
use Rattle.gh_base.specs.declared.sizes.Sizes.{Sizes}
use Rattle.gh_base.specs.Atoms.{AreInRange}

-- what callers see of a `Ground`
pub record Problem : Type 0 where
  pub sizes : Sizes
  pub clauses : List (List Lit)

-- there is a term and a version, each atom is in range, and there are at most 4294967294 clauses
pub record IsProblem (p : Problem) : Type 0 where
  pub terms : 1 ≤ p.sizes.terms
  pub versions : 1 ≤ p.sizes.versions
  pub in_range : All (AreInRange p.sizes) p.clauses
  pub room : length p.clauses ≤ 4294967294

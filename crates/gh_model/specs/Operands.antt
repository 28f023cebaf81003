-- The values of an assertion's operands are in V.
use Rattle.std.specs.Prelude.{ℕ, List, Contains}
use Rattle.gh_ast.specs.Plain.{Assertion, empty, comparison, points_to, cell, segment, star, cases, Assertions}
use Rattle.gh_ast.specs.Plain.{no_assertions, assertion_first}
use Rattle.gh_assert.specs.Meaning.{Store, value}

abbrev mutual
  pub IsNamed : Assertion → Store → List ℕ → Type 0
  IsNamed empty s V = Unit {0}
  IsNamed (comparison l e r) s V = Contains V (value s l) × Contains V (value s r)
  IsNamed (points_to at to) s V = Contains V (s at.name) × Contains V (value s to)
  IsNamed (cell at) s V = Contains V (s at.name)
  IsNamed (segment x y) s V = Contains V (value s x) × Contains V (value s y)
  IsNamed (star fs) s V = AreNamed fs s V
  IsNamed (cases t f g) s V = IsNamed f s V × IsNamed g s V

  pub AreNamed : Assertions → Store → List ℕ → Type 0
  AreNamed no_assertions s V = Unit {0}
  AreNamed (assertion_first f fs) s V = IsNamed f s V × AreNamed fs s V

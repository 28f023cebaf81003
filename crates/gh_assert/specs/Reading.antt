-- What an assertion says of named values alone.
use Rattle.std.specs.Prelude.{◌≡◌, ◌≢◌, ◌⊎◌, ℕ, List, Some, ◌==◌, true, MatchBool, Contains}
use Rattle.std.specs.FinMap.{get}
use Rattle.gh_ast.specs.Plain.{Assertion, empty, comparison, points_to, cell, segment, star, cases, Assertions}
use Rattle.gh_ast.specs.Plain.{no_assertions, assertion_first}
use Rattle.gh_assert.specs.Heaps.{Heap}
use Rattle.gh_assert.specs.Meaning.{Store, value, agrees, truth}
use Rattle.gh_assert.specs.Walks.{succ, Allocated, Between}

-- the footprint: the places that an assertion speaks of, read off the walks of the whole heap
abbrev mutual
  pub Covers : Assertion → Store → Heap → ℕ → Type 0
  Covers empty s h z = ⊥
  Covers (comparison l e r) s h z = ⊥
  Covers (points_to at to) s h z = s at.name ≡ z
  Covers (cell at) s h z = s at.name ≡ z
  Covers (segment x y) s h z = Between h (value s x) z (value s y) × (z ≢ value s y)
  Covers (star fs) s h z = CoversAny fs s h z
  Covers (cases t f g) s h z = MatchBool (truth s t) (Covers f s h z) (Covers g s h z)

  pub CoversAny : Assertions → Store → Heap → ℕ → Type 0
  CoversAny no_assertions s h z = ⊥
  CoversAny (assertion_first f fs) s h z = Covers f s h z ⊎ CoversAny fs s h z

-- some part of the heap meets the assertion. Of the parts of a star only named places are asked to be apart
abbrev mutual
  pub Reads : Assertion → Store → Heap → List ℕ → Type 0
  Reads empty s h V = Unit {0}
  Reads (comparison l e r) s h V = agrees e (value s l == value s r) ≡ true
  Reads (points_to at to) s h V = get h (s at.name) ≡ Some (value s to)
  Reads (cell at) s h V = Allocated h (s at.name)
  Reads (segment x y) s h V = Between h (value s x) (value s y) (value s y)
  Reads (star fs) s h V = ReadsAll fs s h V
  Reads (cases t f g) s h V = MatchBool (truth s t) (Reads f s h V) (Reads g s h V)

  pub ReadsAll : Assertions → Store → Heap → List ℕ → Type 0
  ReadsAll no_assertions s h V = Unit {0}
  ReadsAll (assertion_first f fs) s h V =
      Reads f s h V × ReadsAll fs s h V × ((z : ℕ) → Contains V z → Covers f s h z → CoversAny fs s h z → ⊥)

-- the operands have names, and so has what a single cell contains
abbrev mutual
  pub HasNames : Assertion → Store → Heap → List ℕ → Type 0
  HasNames empty s h V = Unit {0}
  HasNames (comparison l e r) s h V = Contains V (value s l) × Contains V (value s r)
  HasNames (points_to at to) s h V = Contains V (s at.name) × Contains V (succ h (s at.name)) × Contains V (value s to)
  HasNames (cell at) s h V = Contains V (s at.name) × Contains V (succ h (s at.name))
  HasNames (segment x y) s h V = Contains V (value s x) × Contains V (value s y)
  HasNames (star fs) s h V = HaveNames fs s h V
  HasNames (cases t f g) s h V = HasNames f s h V × HasNames g s h V

  pub HaveNames : Assertions → Store → Heap → List ℕ → Type 0
  HaveNames no_assertions s h V = Unit {0}
  HaveNames (assertion_first f fs) s h V = HasNames f s h V × HaveNames fs s h V

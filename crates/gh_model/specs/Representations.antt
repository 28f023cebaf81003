-- A structure that represents a heap, and what it says of assertions.
use Rattle.std.specs.Prelude.{◌≡◌, ◌≢◌, ◌⊎◌, ◌↔◌, ℕ, List, ◌==◌, true, IsTrue, MatchBool, Contains, Decides}
use Rattle.gh_ast.specs.Plain.{Assertion, empty, comparison, points_to, cell, segment, star, cases, Assertions}
use Rattle.gh_ast.specs.Plain.{no_assertions, assertion_first}
use Rattle.gh_assert.specs.Heaps.{Heap, IsPart}
use Rattle.gh_assert.specs.Meaning.{Store, Meaning, value, agrees, truth}
use Rattle.gh_assert.specs.Walks.{Between, Allocated}
use Rattle.gh_assert.specs.Hops.{Hop}
use Rattle.gh_model.specs.Structures.{HeapStructure}

-- at values of V the structure has the cells, the hops and the betweenness of the heap
pub record Represents (V : List ℕ) (h : Heap) (m : HeapStructure) : Type 0 where
  pub alloc : (x : ℕ) → Contains V x → Decides (m.alloc x) (Allocated h x)
  pub hop : (x v : ℕ) → Contains V x → Contains V v → Decides (m.hop x v) (Hop V h x v)
  pub between : (x y z : ℕ) → Contains V x → Contains V y → Contains V z → Decides (m.between x y z) (Between h x y z)

-- z is in the footprint of the assertion
abbrev mutual
  pub IsInside : Assertion → Store → HeapStructure → ℕ → Type 0
  IsInside empty s m z = ⊥
  IsInside (comparison l e r) s m z = ⊥
  IsInside (points_to at to) s m z = s at.name ≡ z
  IsInside (cell at) s m z = s at.name ≡ z
  IsInside (segment x y) s m z = IsTrue (m.between (value s x) z (value s y)) × (z ≢ value s y)
  IsInside (star fs) s m z = IsInsideAny fs s m z
  IsInside (cases t f g) s m z = MatchBool (truth s t) (IsInside f s m z) (IsInside g s m z)

  pub IsInsideAny : Assertions → Store → HeapStructure → ℕ → Type 0
  IsInsideAny no_assertions s m z = ⊥
  IsInsideAny (assertion_first f fs) s m z = IsInside f s m z ⊎ IsInsideAny fs s m z

-- some part of the heap meets the assertion. Of the parts of a star only values of V are asked to be apart
abbrev mutual
  pub Fits : Assertion → Store → HeapStructure → List ℕ → Type 0
  Fits empty s m V = Unit {0}
  Fits (comparison l e r) s m V = agrees e (value s l == value s r) ≡ true
  Fits (points_to at to) s m V = IsTrue (m.hop (s at.name) (value s to))
  Fits (cell at) s m V = IsTrue (m.alloc (s at.name))
  Fits (segment x y) s m V = IsTrue (m.between (value s x) (value s y) (value s y))
  Fits (star fs) s m V = FitAll fs s m V
  Fits (cases t f g) s m V = MatchBool (truth s t) (Fits f s m V) (Fits g s m V)

  pub FitAll : Assertions → Store → HeapStructure → List ℕ → Type 0
  FitAll no_assertions s m V = Unit {0}
  FitAll (assertion_first f fs) s m V =
      Fits f s m V × FitAll fs s m V × ((z : ℕ) → Contains V z → IsInside f s m z → IsInsideAny fs s m z → ⊥)

-- the whole heap meets the assertion
abbrev pub FitsWhole : Assertion → Store → HeapStructure → List ℕ → Type 0
FitsWhole f s m V = Fits f s m V × ((z : ℕ) → Contains V z → IsTrue (m.alloc z) ↔ IsInside f s m z)

-- the structure and the heap agree on an assertion: on parts that meet it, on its footprint, and on the whole
pub record AgreeOn (V : List ℕ) (h : Heap) (m : HeapStructure) (s : Store) (f : Assertion) : Type 0 where
  pub part : Fits f s m V ↔ ((a : Heap) × IsPart a h × Meaning f s a)
  pub footprint : (a : Heap) → IsPart a h → Meaning f s a → (z : ℕ) → Contains V z → Allocated a z ↔ IsInside f s m z
  pub whole : FitsWhole f s m V ↔ Meaning f s h

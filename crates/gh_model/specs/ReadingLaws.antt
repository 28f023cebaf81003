-- The three formulas of an assertion over terms, in an interpretation that depicts a heap.
use Rattle.std.specs.Prelude.{◌≡◌, ◌↔◌, ℕ, List, length, slice_get, Some, None, IsTrue, Contains}
use Rattle.std.specs.FinMap.{get}
use Rattle.gh_base.specs.declared.atom.Term.{Term}
use Rattle.gh_base.specs.Meaning.{Interpretation}
use Rattle.gh_base.specs.Atoms.{term}
use Rattle.gh_ast.specs.Plain.{Assertion}
use Rattle.gh_ast.specs.Programs.{Name}
use Rattle.gh_ast.specs.Names.{AssertionIn}
use Rattle.gh_assert.specs.Heaps.{Heap, IsPart}
use Rattle.gh_assert.specs.Meaning.{Store, Meaning}
use Rattle.gh_assert.specs.Walks.{succ, Allocated}
use Rattle.gh_assert.specs.Ownership.{Owned}
use Rattle.gh_assert.specs.Reading.{HasNames}
use Rattle.gh_grass.specs.Footprints.{Variables, footprint, structure}
use Rattle.gh_grass.specs.Truth.{truth}
use Rattle.gh_model.specs.Depictions.{IsHeapDepicted}
use Rattle.gh_model.specs.Homomorphisms.{AtCells, whole_of}

-- the heap is owned over the values V of the terms, and version i says of the terms what is so in it
pub record IsOwnedHeap (V : List ℕ) (m : Interpretation) (i : ℕ) (h : Heap) : Type 0 where
  pub null : slice_get V 0 ≡ Some 0
  pub proper : get h 0 ≡ None
  pub owned : Owned V h
  pub equal : (t u v w : ℕ) → slice_get V t ≡ Some v → slice_get V u ≡ Some w → (m.class t ≡ m.class u) ↔ (v ≡ w)
  pub depicted : IsHeapDepicted V m i h

-- the variables of the assertion have terms with their values, and so has what follows a place whose content the
-- assertion speaks of; all values that the assertion names are in V
pub record HasTerms (V : List ℕ) (b : Variables) (next : Term → Term) (st : Store) (h : Heap) (xs : List Name)
    (f : Assertion) : Type 0 where
  pub over : AssertionIn f xs
  pub bound : (x : Name) → Contains xs x → slice_get V (b x).0 ≡ Some (st x)
  pub after : AtCells (λ x. slice_get V (next (b x)).0 ≡ Some (succ h (st x))) f
  pub named : HasNames f st h V

-- the structure formula is true exactly where some part of the heap meets the assertion, the footprint formula then
-- exactly for the terms whose values lie in that part, and the formula of the whole exactly where the whole heap meets
-- the assertion
pub record IsReadOffTerms (V : List ℕ) (m : Interpretation) (i : ℕ) (b : Variables) (next : Term → Term) (st : Store)
    (h : Heap) (f : Assertion) : Type 0 where
  pub part : IsTrue (truth m (structure b next i (length V) f)) ↔ ((a : Heap) × IsPart a h × Meaning f st a)
  pub footprint : (a : Heap) → IsPart a h → Meaning f st a → (t z : ℕ) → slice_get V t ≡ Some z
      → IsTrue (truth m (footprint b i (term t) f)) ↔ Allocated a z
  pub whole : IsTrue (truth m (whole_of b next i (length V) f)) ↔ Meaning f st h

abbrev pub FormulasAreRead : Type 0
FormulasAreRead =
    (V : List ℕ) (m : Interpretation) (i : ℕ) (b : Variables) (next : Term → Term) (st : Store) (h : Heap)
    (xs : List Name) (f : Assertion) →
    IsOwnedHeap V m i h → HasTerms V b next st h xs f → IsReadOffTerms V m i b next st h f

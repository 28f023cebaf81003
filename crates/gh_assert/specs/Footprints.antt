-- The one part of a heap that meets an assertion.
use Rattle.std.specs.Prelude.{◌≡◌, ℕ, List, map, Bool, true, false}
use Rattle.std.specs.FinMap.{keys}
use Rattle.gh_ast.specs.declared.Assertion.{Assertion as CodeAssertion}
use Rattle.gh_ast.specs.Plain.{Assertion, assertion_of, assertions_view}
use Rattle.gh_assert.specs.Heaps.{Heap, Splits}
use Rattle.gh_assert.specs.Meaning.{Store, Meaning, MeaningAll, MeetsOneOf, HasPart}
use Rattle.gh_assert.specs.Stores.{store_of}
use Rattle.gh_assert.specs.declared.store.Entry.{Entry}

-- the heap falls into a part that meets Q, and the rest
pub record Takes (Q : Heap → Type 0) (h rest : Heap) : Type 0 where
  pub part : Heap
  pub splits : Splits h part rest
  pub meets : Q part

-- no part of the heap meets Q
abbrev pub NoPart : (Heap → Type 0) → Heap → Type 0
NoPart Q h = (a b : Heap) → Splits h a b → Q a → ⊥

-- what taking a part answers: it is taken, or there is none
abbrev pub Took : Bool → (Heap → Type 0) → Heap → Heap → Type 0
Took true Q h rest = Takes Q h rest
Took false Q h rest = NoPart Q h

-- the places of the part that is taken off the heap, so that the rest is left, ascending
abbrev pub AreTaken : Heap → Heap → List ℕ → Type 0
AreTaken h rest places = (a : Heap) → Splits h a rest → places ≡ keys a

-- the places of the part that meets the assertion, ascending
pub record IsFootprint (f : Assertion) (s : Store) (h : Heap) (places : List ℕ) : Type 0 where
  pub part : Heap
  pub rest : Heap
  pub splits : Splits h part rest
  pub meets : Meaning f s part
  pub places_are : places ≡ keys part

-- what assertions of the code say of a heap, over the listed values of a store
abbrev pub MeaningIn : List Entry → CodeAssertion → Heap → Type 0
MeaningIn store a = Meaning (assertion_of a) (store_of store)

abbrev pub MeaningAllIn : List Entry → List CodeAssertion → Heap → Type 0
MeaningAllIn store members = MeaningAll (assertions_view members) (store_of store)

abbrev pub MeetsOneIn : List Entry → List CodeAssertion → Heap → Type 0
MeetsOneIn store alternatives = MeetsOneOf (map assertion_of alternatives) (store_of store)

abbrev pub IsFootprintIn : List Entry → CodeAssertion → Heap → List ℕ → Type 0
IsFootprintIn store a = IsFootprint (assertion_of a) (store_of store)

abbrev pub HasPartIn : List Entry → CodeAssertion → Heap → Type 0
HasPartIn store a = HasPart (assertion_of a) (store_of store)

-- Steps between heaps are steps between the structures that represent them.
use Rattle.std.specs.Prelude.{◌≡◌, ℕ, List, None, Contains}
use Rattle.std.specs.FinMap.{get}
use Rattle.gh_ast.specs.Plain.{Assertion}
use Rattle.gh_assert.specs.Heaps.{Heap, IsProper}
use Rattle.gh_assert.specs.Meaning.{Store}
use Rattle.gh_assert.specs.Walks.{Allocated}
use Rattle.gh_assert.specs.Ownership.{Owned}
use Rattle.gh_assert.specs.Reading.{HasNames}
use Rattle.gh_model.specs.Structures.{HeapStructure}
use Rattle.gh_model.specs.Representations.{Represents}
use Rattle.gh_model.specs.Transitions.{StepsByWrite, StepsByNew, StepsByFree, StepsByCall, IsPut, IsFreed, IsCalled}

-- two owned heaps, and a structure that represents each
pub record AreRepresented (V : List ℕ) (h k : Heap) (m n : HeapStructure) : Type 0 where
  pub proper : IsProper h
  pub proper_after : IsProper k
  pub owned : Owned V h
  pub owned_after : Owned V k
  pub represents : Represents V h m
  pub represents_after : Represents V k n

abbrev pub WritesAreRepresented : Type 0
WritesAreRepresented =
    (V : List ℕ) (h k : Heap) (m n : HeapStructure) → AreRepresented V h k m n → (x v : ℕ) → Contains V x → Contains V v
    → Allocated h x → IsPut h k x v → StepsByWrite V m n x v

abbrev pub NewsAreRepresented : Type 0
NewsAreRepresented =
    (V : List ℕ) (h k : Heap) (m n : HeapStructure) → AreRepresented V h k m n → (x v : ℕ) → Contains V x → Contains V v
    → get h x ≡ None → IsPut h k x v → StepsByNew V m n x v

abbrev pub FreesAreRepresented : Type 0
FreesAreRepresented =
    (V : List ℕ) (h k : Heap) (m n : HeapStructure) → AreRepresented V h k m n → (x : ℕ) → Contains V x → IsFreed h k x
    → StepsByFree V m n x

abbrev pub CallsAreRepresented : Type 0
CallsAreRepresented =
    (V : List ℕ) (h k : Heap) (m n : HeapStructure) (p q : Assertion) (s t : Store) → AreRepresented V h k m n
    → HasNames p s h V → HasNames q t k V → IsCalled h k p q s t → StepsByCall V m n p q s t

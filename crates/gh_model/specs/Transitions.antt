-- What the clauses of a step say of the structures before and after it, and what the step does to heaps.
use Rattle.std.specs.Prelude.{◌≡◌, ◌≢◌, ◌⊎◌, ◌↔◌, ℕ, List, Some, None, IsTrue, Contains}
use Rattle.std.specs.FinMap.{get}
use Rattle.gh_ast.specs.Plain.{Assertion}
use Rattle.gh_assert.specs.Heaps.{Heap, Splits}
use Rattle.gh_assert.specs.Meaning.{Store, Meaning}
use Rattle.gh_model.specs.Structures.{HeapStructure}
use Rattle.gh_model.specs.Representations.{IsInside, Fits}

-- away from x the hops stay
abbrev pub KeepsHops : List ℕ → HeapStructure → HeapStructure → ℕ → Type 0
KeepsHops V m n x = (z v : ℕ) → Contains V z → Contains V v → z ≢ x → IsTrue (n.hop z v) ↔ IsTrue (m.hop z v)

-- a write, from m to n: x hops to v, and the other hops and the cells stay
pub record StepsByWrite (V : List ℕ) (m n : HeapStructure) (x v : ℕ) : Type 0 where
  pub alloc : (z : ℕ) → Contains V z → IsTrue (n.alloc z) ↔ IsTrue (m.alloc z)
  pub here : IsTrue (n.hop x v)
  pub kept : KeepsHops V m n x

-- a new cell, from m to n: x becomes a cell and hops to v, and the other hops and cells stay
pub record StepsByNew (V : List ℕ) (m n : HeapStructure) (x v : ℕ) : Type 0 where
  pub fresh : IsTrue (m.alloc x) → ⊥
  pub alloc : (z : ℕ) → Contains V z → IsTrue (n.alloc z) ↔ (IsTrue (m.alloc z) ⊎ (z ≡ x))
  pub here : IsTrue (n.hop x v)
  pub kept : KeepsHops V m n x

-- a freed cell, from m to n: x is no cell in n, and the other hops and cells stay
pub record StepsByFree (V : List ℕ) (m n : HeapStructure) (x : ℕ) : Type 0 where
  pub alloc : (z : ℕ) → Contains V z → IsTrue (n.alloc z) ↔ (IsTrue (m.alloc z) × (z ≢ x))
  pub kept : KeepsHops V m n x

-- z is a cell that a call or a loop keeps: it is outside the footprint of p
abbrev pub IsSetAside : Assertion → Store → HeapStructure → ℕ → Type 0
IsSetAside p s m z = IsTrue (m.alloc z) × (IsInside p s m z → ⊥)

-- from m to n a part that meets p under the store s gives way to one that meets q under the store t
pub record StepsByCall (V : List ℕ) (m n : HeapStructure) (p q : Assertion) (s t : Store) : Type 0 where
  pub before : Fits p s m V
  pub after : Fits q t n V
  pub apart : (z : ℕ) → Contains V z → IsSetAside p s m z → IsInside q t n z → ⊥
  pub alloc : (z : ℕ) → Contains V z → IsTrue (n.alloc z) ↔ (IsSetAside p s m z ⊎ IsInside q t n z)
  pub kept : (z v : ℕ) → Contains V z → Contains V v → IsSetAside p s m z → IsTrue (n.hop z v) ↔ IsTrue (m.hop z v)

-- the heaps are the same at all places but x
abbrev pub IsAwayFrom : ℕ → Heap → Heap → Type 0
IsAwayFrom x h k = (z : ℕ) → z ≢ x → get k z ≡ get h z

-- from h to k the cell at x gets the content v, or a cell comes at x with it
pub record IsPut (h k : Heap) (x v : ℕ) : Type 0 where
  pub here : get k x ≡ Some v
  pub elsewhere : IsAwayFrom x h k

-- k is h without a cell at x
pub record IsFreed (h k : Heap) (x : ℕ) : Type 0 where
  pub here : get k x ≡ None
  pub elsewhere : IsAwayFrom x h k

-- a part that meets p gives way to one that meets q, and the rest stays
pub record IsCalled (h k : Heap) (p q : Assertion) (s t : Store) : Type 0 where
  pub given : Heap
  pub back : Heap
  pub rest : Heap
  pub before : Splits h given rest
  pub after : Splits k back rest
  pub meets : Meaning p s given
  pub returns : Meaning q t back

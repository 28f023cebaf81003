-- What a heap owes to the values that have names.
use Rattle.std.specs.Prelude.{◌≡◌, ◌⊎◌, ℕ, suc, ◌≤◌, ◌<◌, List, Some, Contains}
use Rattle.std.specs.FinMap.{get}
use Rattle.gh_assert.specs.Heaps.{Heap}
use Rattle.gh_assert.specs.Walks.{walk, Allocated}

abbrev pub IsUnnamed : List ℕ → ℕ → Type 0
IsUnnamed V c = Contains V c → ⊥

-- the walk from some named cell meets c
abbrev pub HangsBelow : List ℕ → Heap → ℕ → Type 0
HangsBelow V h c = (n : ℕ) × (k : ℕ) × Contains V n × Allocated h n × (walk h k n ≡ c)

-- a cell points to a named value or to a cell; two cells that point to one unnamed place are one; an unnamed cell
-- hangs below a named one
pub record Owned (V : List ℕ) (h : Heap) : Type 0 where
  pub points : (x v : ℕ) → get h x ≡ Some v → Contains V v ⊎ Allocated h v
  pub one_predecessor : (c p q : ℕ) → IsUnnamed V c → get h p ≡ Some c → get h q ≡ Some c → p ≡ q
  pub reached : (c : ℕ) → Allocated h c → IsUnnamed V c → HangsBelow V h c

-- exactly one cell points to c
pub record IsPointedToOnce (h : Heap) (c : ℕ) : Type 0 where
  pub from : ℕ
  pub points : get h from ≡ Some c
  pub alone : (q : ℕ) → get h q ≡ Some c → q ≡ from

-- the walk from a named cell leads to c, and meets no named value after its start, c included
pub record LastNamed (V : List ℕ) (h : Heap) (c : ℕ) : Type 0 where
  pub start : ℕ
  pub count : ℕ
  pub named : Contains V start
  pub allocated : Allocated h start
  pub some : 1 ≤ count
  pub arrives : walk h count start ≡ c
  pub unnamed : (i : ℕ) → i < count → IsUnnamed V (walk h (suc i) start)

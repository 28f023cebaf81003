-- From a cell to the first named value.
use Rattle.std.specs.Prelude.{◌≡◌, ℕ, suc, ◌<◌, List, Contains}
use Rattle.gh_assert.specs.Heaps.{Heap}
use Rattle.gh_assert.specs.Walks.{walk, Allocated}
use Rattle.gh_assert.specs.Ownership.{IsUnnamed}

-- x is allocated, and v is the first named value that the walk from x meets after at least one step
pub record Hop (V : List ℕ) (h : Heap) (x v : ℕ) : Type 0 where
  pub allocated : Allocated h x
  pub named : Contains V v
  pub between : ℕ
  pub arrives : walk h (suc between) x ≡ v
  pub unnamed : (i : ℕ) → i < between → IsUnnamed V (walk h (suc i) x)

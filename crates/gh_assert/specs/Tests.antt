-- Tests of walks, in as many steps as there are cells.
use Rattle.std.specs.Prelude.{ℕ, zero, suc, Bool, not, ◌&&◌, ◌||◌, ◌==◌, length}
use Rattle.std.specs.FinMap.{entries}
use Rattle.gh_assert.specs.Heaps.{Heap}
use Rattle.gh_assert.specs.Walks.{succ}

-- at most n steps lead from x to y
abbrev pub meets_within : (ℕ → ℕ) → ℕ → ℕ → ℕ → Bool
meets_within f zero x y = x == y
meets_within f (suc n) x y = (x == y) || meets_within f n (f x) y

-- at most n steps lead from x to z, over y
abbrev pub passes_within : (ℕ → ℕ) → ℕ → ℕ → ℕ → ℕ → Bool
passes_within f zero x y z = (x == y) && (x == z)
passes_within f (suc n) x y z =
    ((x == y) && meets_within f (suc n) x z) || (not (x == z) && passes_within f n (f x) y z)

abbrev pub reaches : Heap → ℕ → ℕ → Bool
reaches h x y = meets_within (succ h) (length (entries h)) x y

abbrev pub is_between : Heap → ℕ → ℕ → ℕ → Bool
is_between h x y z = passes_within (succ h) (length (entries h)) x y z

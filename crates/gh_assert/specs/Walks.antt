-- Walks in a heap: from a place to its content, and on.
use Rattle.std.specs.Prelude.{◌≡◌, ◌≢◌, ℕ, zero, suc, ◌≤◌, ◌<◌, Option, Some, None}
use Rattle.std.specs.FinMap.{get}
use Rattle.gh_assert.specs.Heaps.{Heap}

-- where n steps of f lead from x
abbrev pub steps : (ℕ → ℕ) → ℕ → ℕ → ℕ
steps f zero x = x
steps f (suc n) x = steps f n (f x)

-- n steps lead from x to y, and fewer do not
pub record IsDistance (f : ℕ → ℕ) (x y n : ℕ) : Type 0 where
  pub arrives : steps f n x ≡ y
  pub before : (k : ℕ) → k < n → steps f k x ≢ y

-- on the way from x to z, until z is first met, y is met
pub record IsBetween (f : ℕ → ℕ) (x y z : ℕ) : Type 0 where
  pub end : ℕ
  pub distance : IsDistance f x z end
  pub at : ℕ
  pub within : at ≤ end
  pub passes : steps f at x ≡ y

abbrev pub Leads : (ℕ → ℕ) → ℕ → ℕ → Type 0
Leads f x y = (n : ℕ) × (steps f n x ≡ y)

abbrev pub content_or : ℕ → Option ℕ → ℕ
content_or x None = x
content_or x (Some v) = v

-- the content at x, or x itself where nothing is allocated
abbrev pub succ : Heap → ℕ → ℕ
succ h x = content_or x (get h x)

abbrev pub walk : Heap → ℕ → ℕ → ℕ
walk h = steps (succ h)

abbrev pub Reaches : Heap → ℕ → ℕ → Type 0
Reaches h = Leads (succ h)

abbrev pub Between : Heap → ℕ → ℕ → ℕ → Type 0
Between h = IsBetween (succ h)

abbrev pub Allocated : Heap → ℕ → Type 0
Allocated h x = (v : ℕ) × (get h x ≡ Some v)

-- q is among the first n values of the walk from x
abbrev pub Meets : (ℕ → ℕ) → ℕ → ℕ → ℕ → Type 0
Meets f x n q = (i : ℕ) × (i < n) × (steps f i x ≡ q)

-- Heaps: finite maps from places to contents. Place 0 is null: no assertion describes a cell at null. All facts are
-- about look-ups.
use Rattle.std.specs.Prelude.{◌≡◌, ◌≢◌, ◌⊎◌, ℕ, zero, suc, Option, Some, None}
use Rattle.std.specs.Ordering.{nat_cmp}
use Rattle.std.specs.FinMap.{FinMap, get, remove}

abbrev pub Heap : Type 0
Heap = FinMap nat_cmp ℕ

abbrev pub or_else : Option ℕ → Option ℕ → Option ℕ
or_else None o = o
or_else (Some v) o = Some v

-- h falls into two parts with disjoint domains
pub record Splits (h a b : Heap) : Type 0 where
  pub disjoint : (x : ℕ) → (get a x ≡ None) ⊎ (get b x ≡ None)
  pub union : (x : ℕ) → get h x ≡ or_else (get a x) (get b x)

abbrev pub IsEmpty : Heap → Type 0
IsEmpty h = (x : ℕ) → get h x ≡ None

-- the heap is one cell, with the content `to`
pub record IsCell (at to : ℕ) (h : Heap) : Type 0 where
  pub not_null : at ≢ 0
  pub here : get h at ≡ Some to
  pub elsewhere : (x : ℕ) → x ≢ at → get h x ≡ None

-- the heap is a segment of n cells from x to y
abbrev pub Segment : ℕ → ℕ → ℕ → Heap → Type 0
Segment zero x y h = (x ≡ y) × IsEmpty h
Segment (suc n) x y h = (x ≢ y) × (x ≢ 0) × (z : ℕ) × (get h x ≡ Some z) × Segment n z y (remove h x)

-- b is a part of h
abbrev pub IsPart : Heap → Heap → Type 0
IsPart b h = (x v : ℕ) → get b x ≡ Some v → get h x ≡ Some v

-- null is not allocated
abbrev pub IsProper : Heap → Type 0
IsProper h = get h 0 ≡ None

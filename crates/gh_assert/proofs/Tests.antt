-- Walks are short, so they can be tested.
use Rattle.std.specs.Prelude.{◌≡◌, ◌≢◌, ℕ, zero, suc, ◌-◌, ◌≤◌, true, cond, not, ◌&&◌, ◌==◌, length, is_some, Some}
use Rattle.std.specs.Prelude.{None}
use Rattle.std.specs.Cmp.{nat_cmp_total}
use Rattle.std.specs.FinMap.{get, remove, entries, len, len-remove, len-entries, empty_of_len}
use Rattle.std.proofs.lemmas.Bool.{cases_eq, or_cases, and_parts, or_left, or_right, and_from, eqb-true, eq-eqb}
use Rattle.std.proofs.lemmas.Bool.{eqb-false, ne_eqb, not-true, not_from_false}
use Rattle.std.proofs.Common.{◌∙◌, ap, inl, inr, arith}
use Rattle.gh_assert.specs.Heaps.{Heap, IsPart, Segment}
use Rattle.gh_assert.proofs.Unique.{part_removed}
use Rattle.gh_assert.specs.Walks.{steps, IsDistance, IsBetween, Leads, succ, Reaches, Between}
use Rattle.gh_assert.specs.Tests.{meets_within, passes_within, reaches, is_between}
use Rattle.gh_assert.specs.Laws.{TestsDecide}
use Rattle.gh_assert.proofs.Steps.{distance_suc, distance_rest, distance_from, distance_unique}
use Rattle.gh_assert.proofs.Cells.{no_cells, get_nothing}
use Rattle.gh_assert.proofs.Segments.{segment_from, segment_distance}

-- a heap with a cell has one more entry than without it
one_less : (h : Heap) (x v : ℕ) → get h x ≡ Some v → suc (len (remove h x)) ≡ len h
one_less h x v e = elim (cases_eq (len h) 0) [
  | inl none ↦
      let bare : h ≡ no_cells = empty_of_len h none in
      let out : get h x ≡ None = ap (λ m. get m x) bare ∙ get_nothing x in
      absurd cc
  | inr some ↦ let less : len (remove h x) ≡ len h - 1 =
      len-remove nat_cmp_total h x ∙ ap (λ o. cond (is_some o) (len h - 1) (len h)) e in omega arith
]

segment_short : (n x y : ℕ) (a h : Heap) → Segment n x y a → IsPart a h → n ≤ len h
segment_short zero x y a h s p = omega arith
segment_short (suc n) x y a h (_, _, z, at, rest) p =
    omega (arith, one_less h x z (p x z at), segment_short n z y (remove a x) (remove h x) rest (part_removed a h x p))

pub walk_short : (h : Heap) (x y n : ℕ) → get h 0 ≡ None → IsDistance (succ h) x y n → n ≤ length (entries h)
walk_short h x y n null d =
    let part = segment_from h n x y null d in
    omega (
      arith,
      segment_short part.0 x y part.1 h part.3 part.2,
      distance_unique d (segment_distance part.0 x y part.1 h part.3 part.2),
      len-entries h,
    )

meets_sound : (f : ℕ → ℕ) (n x y : ℕ) → meets_within f n x y ≡ true → Leads f x y
meets_sound f zero x y t = (0, eqb-true x y t)
meets_sound f (suc n) x y t = elim (or_cases (x == y) (meets_within f n (f x) y) t) [
  | inl here ↦ (0, eqb-true x y here)
  | inr on ↦ let rest = meets_sound f n (f x) y on in (suc rest.0, rest.1)
]

meets_complete : (f : ℕ → ℕ) (n m x y : ℕ) → m ≤ n → steps f m x ≡ y → meets_within f n x y ≡ true
meets_complete f zero zero x y l e = eq-eqb x y e
meets_complete f zero (suc m) x y l e = absurd (omega arith)
meets_complete f (suc n) zero x y l e = or_left (x == y) (meets_within f n (f x) y) (eq-eqb x y e)
meets_complete f (suc n) (suc m) x y l e =
    or_right (x == y) (meets_within f n (f x) y) (meets_complete f n m (f x) y (omega arith) e)

from_start : (f : ℕ → ℕ) (x y z : ℕ) → x ≡ y → Leads f x z → IsBetween f x y z
from_start f x y z e (n, to) = let d = distance_from f n x z to in
    record { end = d.0; distance = d.1; at = 0; within = omega arith; passes = e }

from_next : (f : ℕ → ℕ) (x y z : ℕ) → x ≢ z → IsBetween f (f x) y z → IsBetween f x y z
from_next f x y z other b = let w : b.at ≤ b.end = b.within in
    record {
      end = suc b.end;
      distance = distance_suc f x z b.end other b.distance;
      at = suc b.at;
      within = omega arith;
      passes = b.passes;
    }

passes_sound : (f : ℕ → ℕ) (n x y z : ℕ) → passes_within f n x y z ≡ true → IsBetween f x y z
passes_sound f zero x y z t =
    let both = and_parts (x == y) (x == z) t in
    from_start f x y z (eqb-true x y both.0) (0, eqb-true x z both.1)
passes_sound f (suc n) x y z t =
    elim (or_cases ((x == y) && meets_within f (suc n) x z) (not (x == z) && passes_within f n (f x) y z) t) [
      | inl here ↦
          let both = and_parts (x == y) (meets_within f (suc n) x z) here in
          from_start f x y z (eqb-true x y both.0) (meets_sound f (suc n) x z both.1)
      | inr on ↦
          let both = and_parts (not (x == z)) (passes_within f n (f x) y z) on in
          from_next f x y z (eqb-false x z (not-true (x == z) both.0)) (passes_sound f n (f x) y z both.1)
    ]

passes_complete : (f : ℕ → ℕ) (n i j x y z : ℕ) → j ≤ n → i ≤ j → steps f i x ≡ y → IsDistance f x z j
    → passes_within f n x y z ≡ true
passes_complete f zero zero zero x y z l w e d = and_from (x == y) (x == z) (eq-eqb x y e) (eq-eqb x z d.arrives)
passes_complete f zero zero (suc j) x y z l w e d = absurd (omega arith)
passes_complete f zero (suc i) j x y z l w e d = absurd (omega arith)
passes_complete f (suc n) zero j x y z l w e d =
    or_left ((x == y) && meets_within f (suc n) x z) (not (x == z) && passes_within f n (f x) y z)
    (and_from (x == y) (meets_within f (suc n) x z) (eq-eqb x y e) (meets_complete f (suc n) j x z l d.arrives))
passes_complete f (suc n) (suc i) zero x y z l w e d = absurd (omega arith)
passes_complete f (suc n) (suc i) (suc j) x y z l w e d =
    or_right ((x == y) && meets_within f (suc n) x z) (not (x == z) && passes_within f n (f x) y z)
    (and_from (not (x == z)) (passes_within f n (f x) y z)
    (not_from_false (x == z) (ne_eqb x z (d.before 0 (omega arith))))
    (passes_complete f n i j (f x) y z (omega arith) (omega arith) e (distance_rest d 1 j (omega arith))))

pub tests_decide : TestsDecide
tests_decide h null = (
  λ x y. (meets_sound (succ h) (length (entries h)) x y, reaches_complete h x y null),
  λ x y z. (passes_sound (succ h) (length (entries h)) x y z, is_between_complete h x y z null),
)
  where
    reaches_complete : (h : Heap) (x y : ℕ) → get h 0 ≡ None → Reaches h x y → reaches h x y ≡ true
    reaches_complete h x y null (n, e) = let d = distance_from (succ h) n x y e in
        meets_complete (succ h) (length (entries h)) d.0 x y (walk_short h x y d.0 null d.1) d.1.arrives

    is_between_complete : (h : Heap) (x y z : ℕ) → get h 0 ≡ None → Between h x y z → is_between h x y z ≡ true
    is_between_complete h x y z null b =
        passes_complete (succ h) (length (entries h)) b.at b.end x y z (walk_short h x z b.end null b.distance) b.within
        b.passes b.distance

-- Segments are walks.
use Rattle.std.specs.Prelude.{◌≡◌, ◌≢◌, ℕ, zero, suc, ◌-◌, Some, None}
use Rattle.std.specs.FinMap.{get, insert, remove}
use Rattle.std.proofs.lemmas.Bool.{cases_eq}
use Rattle.std.proofs.Common.{sym, ◌∙◌, ap, subst, inl, inr, arith}
use Rattle.gh_assert.specs.Heaps.{Heap, IsPart, Segment}
use Rattle.gh_assert.proofs.Unique.{get_removed, get_kept}
use Rattle.gh_assert.specs.Walks.{steps, IsDistance, succ, Allocated, Meets}
use Rattle.gh_assert.proofs.Steps.{distance_zero, distance_suc, distance_rest, distance_unique, distinct}
use Rattle.gh_assert.proofs.Cells.{no_cells, no_cells_part, get_nothing, by_look_ups, get_put, get_beside, allocated_or}
use Rattle.gh_assert.proofs.Cells.{succ_at, at_succ, allocated_before}

part_kept : (a h : Heap) (x : ℕ) → IsPart a h → IsPart (remove a x) h
part_kept a h x p q v e = elim (cases_eq q x) [
  | inl same ↦ let gone : get (remove a x) q ≡ None =
      subst (λ r. get (remove a x) r ≡ None) (sym same) (get_removed a x) in cc
  | inr n ↦ p q v (sym (get_kept a x q n) ∙ e)
]

pub segment_distance : (n x y : ℕ) (a h : Heap) → Segment n x y a → IsPart a h → IsDistance (succ h) x y n
segment_distance zero x y a h s p = distance_zero (succ h) x y s.0
segment_distance (suc n) x y a h (other, _, z, at, rest) p =
    let next : succ h x ≡ z = succ_at h x z (p x z at) in
    distance_suc (succ h) x y n other
    (subst (λ v. IsDistance (succ h) v y n) (sym next)
    (segment_distance n z y (remove a x) h rest (part_kept a h x p)))

pub segment_meets : (n x y : ℕ) (a h : Heap) → Segment n x y a → IsPart a h → (q : ℕ) → Allocated a q
    → Meets (succ h) x n q
segment_meets zero x y a h s p q (v, e) = let none : get a q ≡ None = s.1 q in absurd cc
segment_meets (suc n) x y a h (other, _, z, at, rest) p q (v, e) = elim (cases_eq q x) [
  | inl same ↦ (0, omega arith, sym same)
  | inr away ↦
      let next : succ h x ≡ z = succ_at h x z (p x z at) in
      let met = segment_meets n z y (remove a x) h rest (part_kept a h x p) q (v, get_kept a x q away ∙ e) in
      (suc met.0, omega (arith, met.1), ap (steps (succ h) met.0) next ∙ met.2)
]

pub segment_covers : (n x y : ℕ) (a h : Heap) → Segment n x y a → IsPart a h → (q : ℕ) → Meets (succ h) x n q
    → Allocated a q
segment_covers zero x y a h s p q (i, l, e) = absurd (omega arith)
segment_covers (suc n) x y a h (other, _, z, at, rest) p q (zero, l, e) = subst (Allocated a) e (z, at)
segment_covers (suc n) x y a h (other, _, z, at, rest) p q (suc i, l, e) = elim (cases_eq q x) [
  | inl same ↦ subst (Allocated a) (sym same) (z, at)
  | inr away ↦
      let next : succ h x ≡ z = succ_at h x z (p x z at) in
      let there =
      segment_covers n z y (remove a x) h rest (part_kept a h x p) q
      (i, omega arith, ap (steps (succ h) i) (sym next) ∙ e) in
      (there.0, sym (get_kept a x q away) ∙ there.1)
]

-- a cell before the walk that a part holds
segment_more : (h a : Heap) (n x y : ℕ) → get h 0 ≡ None → IsDistance (succ h) x y (suc n) → IsPart a h
    → Segment n (succ h x) y a → (n : ℕ) × (b : Heap) × IsPart b h × Segment n x y b
segment_more h a n x y null d p s =
    let here : get h x ≡ Some (succ h x) = at_succ h x (allocated_before h d 0 (omega arith)) in
    let not_null : x ≢ 0 = λ e. let none : get h x ≡ None = subst (λ v. get h v ≡ None) (sym e) null in absurd cc in
    let new : get a x ≡ None = elim (allocated_or a x) [
      | inl there ↦ let met = segment_meets n (succ h x) y a h s p x there in
          absurd (distinct d 0 (suc met.0) (n - met.0) (omega arith) (omega (arith, met.1)) (sym met.2))
      | inr none ↦ none
    ] in
    let b = insert a x (succ h x) in
    let put : get b x ≡ Some (succ h x) = get_put a x (succ h x) in
    let part : IsPart b h = λ q v e. elim (cases_eq q x) [
      | inl same ↦ let there : get b q ≡ Some (succ h x) = subst (λ r. get b r ≡ Some (succ h x)) (sym same) put in cc
      | inr away ↦ p q v (sym (get_beside a x (succ h x) q away) ∙ e)
    ] in
    let back : a ≡ remove b x = by_look_ups a (remove b x) (λ q. elim (cases_eq q x) [
      | inl same ↦ rw same (new ∙ sym (get_removed b x))
      | inr away ↦ sym (get_kept b x q away ∙ get_beside a x (succ h x) q away)
    ]) in
    (suc n, b, part, (d.before 0 (omega arith), not_null, succ h x, put, subst (Segment n (succ h x) y) back s))

pub segment_from : (h : Heap) (n x y : ℕ) → get h 0 ≡ None → IsDistance (succ h) x y n
    → (m : ℕ) × (a : Heap) × IsPart a h × Segment m x y a
segment_from h zero x y null d = (0, no_cells, no_cells_part h, (d.arrives, get_nothing))
segment_from h (suc n) x y null d =
    let rest = segment_from h n (succ h x) y null (distance_rest d 1 n (omega arith)) in
    let same : rest.0 ≡ n =
    distance_unique (segment_distance rest.0 (succ h x) y rest.1 h rest.3 rest.2)
    (distance_rest d 1 n (omega arith)) in
    segment_more h rest.1 n x y null d rest.2 (subst (λ k. Segment k (succ h x) y rest.1) same rest.3)

-- Why at most one sub-heap meets an assertion.
use Rattle.std.specs.Prelude.{◌≡◌, ◌≢◌, ◌⊎◌, ℕ, zero, suc, Bool, true, false, cond, Option, Some, None, MatchBool}
use Rattle.std.specs.Ordering.{nat_cmp, eq_by_cmp}
use Rattle.std.specs.Cmp.{nat_cmp_total}
use Rattle.std.specs.FinMap.{get, remove, get-remove, same_map, nat_cmp-IsAntisymmetric}
use Rattle.std.proofs.lemmas.Bool.{cases_eq}
use Rattle.std.proofs.lemmas.Bool.Decides.{nat_tests}
use Rattle.std.proofs.Common.{refl, sym, ◌∙◌, ap, subst, inl, inr, arith}
use Rattle.gh_ast.specs.Plain.{Assertion, empty, comparison, points_to, cell, segment, star, cases, Assertions}
use Rattle.gh_ast.specs.Plain.{no_assertions, assertion_first}
use Rattle.gh_assert.specs.Heaps.{Heap, Splits, IsCell, Segment, IsPart, or_else}
use Rattle.gh_assert.specs.Meaning.{Store, Meaning, MeaningAll, truth, value}
use Rattle.gh_assert.specs.Laws.{HaveOneFootprint}

pub left_at : (o a b : Option ℕ) (v : ℕ) → o ≡ or_else a b → a ≡ Some v → o ≡ Some v
left_at o None b v e h = cc
left_at o (Some w) b v e h = cc

pub right_at : (o a b : Option ℕ) (v : ℕ) → (a ≡ None) ⊎ (b ≡ None) → o ≡ or_else a b → b ≡ Some v → o ≡ Some v
right_at o None b v d e h = cc
right_at o (Some w) b v d e h = elim d [ inl n ↦ cc | inr n ↦ cc ]

pub part_left : (h a b k : Heap) → Splits h a b → IsPart h k → IsPart a k
part_left h a b k s p x v e = p x v (left_at (get h x) (get a x) (get b x) v (s.union x) e)

pub part_right : (h a b k : Heap) → Splits h a b → IsPart h k → IsPart b k
part_right h a b k s p x v e = p x v (right_at (get h x) (get a x) (get b x) v (s.disjoint x) (s.union x) e)

-- two heaps with the same look-ups
abbrev pub AreAlike : Heap → Heap → Type 0
AreAlike a b = (x : ℕ) → get a x ≡ get b x

pub tie : (q x : ℕ) → q ≡ x → eq_by_cmp nat_cmp q x ≡ true
tie q x e = grind (arith, nat_tests)

pub apart : (q x : ℕ) → q ≢ x → eq_by_cmp nat_cmp q x ≡ false
apart q x n = grind (arith, nat_tests)

pub get_removed : (h : Heap) (x : ℕ) → get (remove h x) x ≡ None
get_removed h x = get-remove nat_cmp_total h x x ∙ ap (λ t. cond t None (get h x)) (tie x x refl)

pub get_kept : (h : Heap) (x q : ℕ) → q ≢ x → get (remove h x) q ≡ get h q
get_kept h x q n = get-remove nat_cmp_total h x q ∙ ap (λ t. cond t None (get h q)) (apart q x n)

pub part_removed : (b h : Heap) (x : ℕ) → IsPart b h → IsPart (remove b x) (remove h x)
part_removed b h x p q v e = elim (cases_eq q x) [
  | inl same ↦
      let gone : get (remove b x) q ≡ None = subst (λ r. get (remove b x) r ≡ None) (sym same) (get_removed b x) in cc
  | inr n ↦ get_kept h x q n ∙ p q v (sym (get_kept b x q n) ∙ e)
]

cells_alike : (x z : ℕ) (a b : Heap) → IsCell x z a → IsCell x z b → AreAlike a b
cells_alike x z a b i j q =
    elim (cases_eq q x) [ inl e ↦ rw e (i.here ∙ sym j.here) | inr n ↦ i.elsewhere q n ∙ sym (j.elsewhere q n) ]

segments_alike : (n m x y : ℕ) (a b h : Heap) → Segment n x y a → Segment m x y b → IsPart a h → IsPart b h
    → AreAlike a b
segments_alike zero zero x y a b h s t p q k = s.1 k ∙ sym (t.1 k)
segments_alike zero (suc m) x y a b h s t p q k = absurd (t.0 s.0)
segments_alike (suc n) zero x y a b h s t p q k = absurd (s.0 t.0)
segments_alike (suc n) (suc m) x y a b h (ne, nz, z, at, seg) (ne', nz', w, at', seg') p q k =
    let ez : get h x ≡ Some z = p x z at in
    let ew : get h x ≡ Some w = q x w at' in
    let same : w ≡ z = cc in
    let rest =
    segments_alike n m z y (remove a x) (remove b x) (remove h x) seg
    (subst (λ v. Segment m v y (remove b x)) same seg') (part_removed a h x p) (part_removed b h x q) in
    elim (cases_eq k x) [
      | inl e ↦ rw e (at ∙ ap Some (sym same) ∙ sym at')
      | inr n' ↦ sym (get_kept a x k n') ∙ rest k ∙ get_kept b x k n'
    ]

by_truth : (t : Bool) (F G F' G' C : Type 0) → (F → F' → C) → (G → G' → C) → MatchBool t F G → MatchBool t F' G' → C
by_truth true F G F' G' C f g u v = f u v
by_truth false F G F' G' C f g u v = g u v

mutual
  alike : (f : Assertion) (s : Store) (a b h : Heap) → Meaning f s a → Meaning f s b → IsPart a h → IsPart b h
      → AreAlike a b
  alike empty s a b h u v p q k = u k ∙ sym (v k)
  alike (comparison l e r) s a b h u v p q k = u.0 k ∙ sym (v.0 k)
  alike (points_to at to) s a b h u v p q k = cells_alike (s at.name) (value s to) a b u v k
  alike (cell at) s a b h (x, u) (y, v) p q k =
      let ex : get h (s at.name) ≡ Some x = p _ _ u.here in
      let ey : get h (s at.name) ≡ Some y = q _ _ v.here in
      let same : y ≡ x = cc in
      cells_alike (s at.name) x a b u (subst (λ z. IsCell (s at.name) z b) same v) k
  alike (segment x y) s a b h (n, u) (m, v) p q k = segments_alike n m (value s x) (value s y) a b h u v p q k
  alike (star fs) s a b h u v p q k = all_alike fs s a b h u v p q k
  alike (cases t f g) s a b h u v p q k =
      by_truth (truth s t) (Meaning f s a) (Meaning g s a) (Meaning f s b) (Meaning g s b) (get a k ≡ get b k)
      (λ m n. alike f s a b h m n p q k) (λ m n. alike g s a b h m n p q k) u v

  all_alike : (fs : Assertions) (s : Store) (a b h : Heap) → MeaningAll fs s a → MeaningAll fs s b → IsPart a h
      → IsPart b h → AreAlike a b
  all_alike no_assertions s a b h u v p q k = u k ∙ sym (v k)
  all_alike (assertion_first f fs) s a b h (a1, a2, sa, u, us) (b1, b2, sb, v, vs) p q k =
      let front = alike f s a1 b1 h u v (part_left a a1 a2 h sa p) (part_left b b1 b2 h sb q) k in
      let back = all_alike fs s a2 b2 h us vs (part_right a a1 a2 h sa p) (part_right b b1 b2 h sb q) k in
      sa.union k ∙ ap (λ o. or_else o (get a2 k)) front ∙ ap (or_else (get b1 k)) back ∙ sym (sb.union k)

pub one_footprint : HaveOneFootprint
one_footprint f s a b h u v p q = same_map nat_cmp_total nat_cmp-IsAntisymmetric a b (alike f s a b h u v p q)

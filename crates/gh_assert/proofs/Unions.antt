-- The union of two heaps, and one cell.
use Rattle.std.specs.Prelude.{◌≡◌, ◌≢◌, ◌⊎◌, ℕ, Option, Some, None, List, [], ◌∷◌, cond, Bool, true, false, not}
use Rattle.std.specs.Prelude.{is_some}
use Rattle.std.specs.Ordering.{nat_cmp, eq_by_cmp}
use Rattle.std.specs.Cmp.{nat_cmp_total}
use Rattle.std.specs.FinMap.{get, insert, entries, get-insert, get-entries, find, retain_keys, get-retain_keys}
use Rattle.std.specs.FinMap.{nat_cmp-IsAntisymmetric}
use Rattle.std.proofs.Common.{refl, sym, ◌∙◌, ap, subst, inl, inr}
use Rattle.gh_assert.specs.Heaps.{Heap, Splits, IsPart, IsCell, or_else}
use Rattle.gh_assert.proofs.Unique.{part_left}
use Rattle.gh_assert.specs.Walks.{Allocated}
use Rattle.gh_assert.proofs.Cells.{no_cells, get_nothing, get_put, get_beside}

abbrev union_with : List (ℕ × ℕ) → Heap → Heap
union_with [] h = h
union_with (e ∷ es) h = insert (union_with es h) e.0 e.1

-- the first heap's value where both have one
abbrev pub union : Heap → Heap → Heap
union a b = union_with (entries a) b

moved : (t : Bool) (v : ℕ) (o p : Option ℕ) → cond t (Some v) (or_else o p) ≡ or_else (cond t (Some v) o) p
moved true v o p = refl
moved false v o p = refl

get_union_with : (es : List (ℕ × ℕ)) (b : Heap) (x : ℕ)
    → get (union_with es b) x ≡ or_else (find nat_cmp x es) (get b x)
get_union_with [] b x = refl
get_union_with (e ∷ es) b x =
    get-insert nat_cmp_total (union_with es b) e.0 e.1 x
    ∙ ap (cond (eq_by_cmp nat_cmp x e.0) (Some e.1)) (get_union_with es b x)
    ∙ moved (eq_by_cmp nat_cmp x e.0) e.1 (find nat_cmp x es) (get b x)

pub get_union : (a b : Heap) (x : ℕ) → get (union a b) x ≡ or_else (get a x) (get b x)
get_union a b x = get_union_with (entries a) b x ∙ ap (λ o. or_else o (get b x)) (sym (get-entries a x))

from_either : (o a b : Option ℕ) (v : ℕ) → o ≡ or_else a b → o ≡ Some v → (a ≡ Some v) ⊎ (b ≡ Some v)
from_either o None b v e f = inr cc
from_either o (Some w) b v e f = inl cc

-- what a union of two heaps has, one of them has
pub in_either : (h a b : Heap) (x v : ℕ) → get h x ≡ or_else (get a x) (get b x) → get h x ≡ Some v
    → (get a x ≡ Some v) ⊎ (get b x ≡ Some v)
in_either h a b x v e f = from_either (get h x) (get a x) (get b x) v e f

pub union_part : (a b h : Heap) → IsPart a h → IsPart b h → IsPart (union a b) h
union_part a b h p q x v e =
    elim (in_either (union a b) a b x v (get_union a b x) e) [ inl l ↦ p x v l | inr r ↦ q x v r ]

abbrev pub one_cell : ℕ → ℕ → Heap
one_cell x v = insert no_cells x v

pub is_one_cell : (x v : ℕ) → x ≢ 0 → IsCell x v (one_cell x v)
is_one_cell x v n = record {
  not_null = n;
  here = get_put no_cells x v;
  elsewhere = λ q away. get_beside no_cells x v q away ∙ get_nothing q;
}

-- h without the places of a
abbrev pub without : Heap → Heap → Heap
without h a = retain_keys h (λ q. not (is_some (get a q)))

pub get_without : (h a : Heap) (q : ℕ) → get (without h a) q ≡ cond (not (is_some (get a q))) (get h q) None
get_without h a q =
    get-retain_keys h (λ x. not (is_some (get a x))) q
    (λ x e. ap (λ y. not (is_some (get a y))) (sym (nat_cmp-IsAntisymmetric q x e)))

kept_apart : (o p : Option ℕ) → (o ≡ None) ⊎ (cond (not (is_some o)) p None ≡ None)
kept_apart None p = inl refl
kept_apart (Some v) p = inr refl

kept_union : (o p : Option ℕ) → ((v : ℕ) → o ≡ Some v → p ≡ Some v) → p ≡ or_else o (cond (not (is_some o)) p None)
kept_union None p part = refl
kept_union (Some v) p part = part v refl

pub part_splits : (a h : Heap) → IsPart a h → Splits h a (without h a)
part_splits a h part = record {
  disjoint = λ q. subst (λ o. (get a q ≡ None) ⊎ (o ≡ None)) (sym (get_without h a q)) (kept_apart (get a q) (get h q));
  union =
      λ q. subst (λ o. get h q ≡ or_else (get a q) o) (sym (get_without h a q))
      (kept_union (get a q) (get h q) (part q));
}

pub split_part : (h a b : Heap) → Splits h a b → IsPart a h
split_part h a b split = part_left h a b h split (λ x v e. e)

pub parts_apart : (a b c : Heap) (z : ℕ) → Splits a b c → Allocated b z → Allocated c z → ⊥
parts_apart a b c z split (v, e) (w, e') = elim (split.disjoint z) [ inl none ↦ absurd cc | inr none ↦ absurd cc ]

-- From terms to their classes.
use Rattle.std.specs.Prelude.{◌≡◌, ℕ, zero, suc, ◌+◌, ◌≤◌, ◌<◌, List, [], ◌∷◌, map, Bool, true, false, cond, IsTrue}
use Rattle.std.specs.Prelude.{Contains}
use Rattle.std.proofs.lemmas.Bool.{cases_eq}
use Rattle.std.proofs.Common.{refl, sym, ◌∙◌, ap, subst, inl, inr, arith}
use Rattle.gh_assert.proofs.Owned.{later_one, first_or_later}
use Rattle.gh_model.specs.Structures.{HeapStructure, KeepsAxioms}
use Rattle.gh_model.specs.BuiltHeaps.{first}
use Rattle.gh_model.specs.Classes.{numbers, class_of, classes, IsCongruence}
use Rattle.gh_model.specs.Laws.{ClassesAreModels}
use Rattle.gh_model.proofs.heaps.Cells.{first_passes}

-- what holds of terms holds of some of them, where equal ones are one
some_keep : (N K : ℕ → Type 0) (E F : ℕ → ℕ → Type 0) (m : HeapStructure) → ((x : ℕ) → K x → N x)
    → ((x y : ℕ) → K x → K y → E x y → F x y)
    → ((x v : ℕ) → K x → N v → IsTrue (m.hop x v) → (w : ℕ) × K w × IsTrue (m.hop x w)) → KeepsAxioms N E m
    → KeepsAxioms K F m
some_keep N K E F m in_N one hop M = record {
  ordered = record {
    row_1 = λ x kx. M.ordered.row_1 x (in_N x kx);
    row_2 = λ x y kx ky b. one x y kx ky (M.ordered.row_2 x y (in_N x kx) (in_N y ky) b);
    row_3 = λ x y z kx ky kz. M.ordered.row_3 x y z (in_N x kx) (in_N y ky) (in_N z kz);
    row_4 = λ x y z kx ky kz. M.ordered.row_4 x y z (in_N x kx) (in_N y ky) (in_N z kz);
    row_5 = λ x y z kx ky kz. M.ordered.row_5 x y z (in_N x kx) (in_N y ky) (in_N z kz);
    row_6 = λ x y z kx ky kz. M.ordered.row_6 x y z (in_N x kx) (in_N y ky) (in_N z kz);
    row_7 = λ x y u z kx ky ku kz. M.ordered.row_7 x y u z (in_N x kx) (in_N y ky) (in_N u ku) (in_N z kz);
    row_8 = λ x y u z kx ky ku kz. M.ordered.row_8 x y u z (in_N x kx) (in_N y ky) (in_N u ku) (in_N z kz);
    row_9 = λ x y u z kx ky ku kz. M.ordered.row_9 x y u z (in_N x kx) (in_N y ky) (in_N u ku) (in_N z kz);
    row_10 = λ x y u z kx ky ku kz. M.ordered.row_10 x y u z (in_N x kx) (in_N y ky) (in_N u ku) (in_N z kz);
  };
  linked = record {
    row_11 = λ x v kx kv. M.linked.row_11 x v (in_N x kx) (in_N v kv);
    row_12 =
        λ x v w kx kv kw a b. elim (M.linked.row_12 x v w (in_N x kx) (in_N v kv) (in_N w kw) a b)
        [ inl e ↦ inl (one w x kw kx e) | inr c ↦ inr c ];
    row_13 =
        λ x y kx ky b. elim (M.linked.row_13 x y (in_N x kx) (in_N y ky) b)
        [ inl a ↦ inl a | inr e ↦ inr (one x y kx ky e) ];
    row_14 = λ x w kx kw a b. one w x kw kx (M.linked.row_14 x w (in_N x kx) (in_N w kw) a b);
    row_15 = λ x v kx kv. M.linked.row_15 x v (in_N x kx) (in_N v kv);
    null = M.linked.null;
    hops = λ x kx a. let next = M.linked.hops x (in_N x kx) a in hop x next.0 kx next.1 next.2;
  };
}

pub numbered : (k n t : ℕ) → k ≤ t → t < k + n → Contains (numbers k n) t
numbered k zero t l g = absurd (omega arith)
numbered k (suc n) t l g = elim (cases_eq k t) [
  | inl same ↦ (0, omega arith, same)
  | inr other ↦ later_one k t (numbers (suc k) n) (numbered (suc k) n t (omega arith) (omega arith))
]

pub below : (k n t : ℕ) → Contains (numbers k n) t → t < k + n
below k zero t c = absurd (omega (arith, c.1))
below k (suc n) t c = elim (first_or_later k t (numbers (suc k) n) c) [
  | inl same ↦ omega arith
  | inr later ↦ omega (arith, below (suc k) n t later)
]

mapped : (f : ℕ → ℕ) (xs : List ℕ) (x : ℕ) → Contains xs x → Contains (map f xs) (f x)
mapped f [] x c = absurd (omega (arith, c.1))
mapped f (u ∷ us) x c = elim (first_or_later u x us c) [
  | inl same ↦ (0, omega arith, ap f same)
  | inr later ↦ later_one (f u) (f x) (map f us) (mapped f us x later)
]

from_map : (f : ℕ → ℕ) (xs : List ℕ) (y : ℕ) → Contains (map f xs) y → (x : ℕ) × Contains xs x × (f x ≡ y)
from_map f [] y c = absurd (omega (arith, c.1))
from_map f (u ∷ us) y c = elim (first_or_later (f u) y (map f us) c) [
  | inl same ↦ (u, (0, omega arith, refl), same)
  | inr later ↦ let rest = from_map f us y later in (rest.0, later_one u rest.0 us rest.1, rest.2)
]

pub same_test : (a b : Bool) → (a ≡ true → b ≡ true) → (b ≡ true → a ≡ true) → a ≡ b
same_test true b f g = sym (f refl)
same_test false false f g = refl
same_test false true f g = g refl

first_same : (p q : ℕ → Bool) (vs : List ℕ) → ((v : ℕ) → Contains vs v → p v ≡ q v) → first p vs ≡ first q vs
first_same p q [] e = refl
first_same p q (v ∷ vs) e =
    ap (λ b. cond b v (first p vs)) (e v (0, omega arith, refl))
    ∙ ap (cond (q v) v) (first_same p q vs (λ w c. e w (later_one v w vs c)))

-- a term equals its class, which is a term
class_term : (equal : ℕ → ℕ → Bool) (n : ℕ) (m : HeapStructure) → IsCongruence equal n m → (t : ℕ) → t < n
    → (class_of equal n t < n) × IsTrue (equal t (class_of equal n t))
class_term equal n m C t l =
    let found = first_passes (equal t) (numbers 0 n) t (numbered 0 n t (omega arith) (omega arith)) (C.itself t l) in
    (omega (arith, below 0 n (class_of equal n t) found.0), found.1)

same_class : (equal : ℕ → ℕ → Bool) (n : ℕ) (m : HeapStructure) → IsCongruence equal n m → (x y : ℕ) → x < n → y < n
    → IsTrue (equal x y) → class_of equal n x ≡ class_of equal n y
same_class equal n m C x y lx ly e = first_same (equal x) (equal y) (numbers 0 n) (λ v c.
    let lv : v < n = omega (arith, below 0 n v c) in
    same_test (equal x v) (equal y v) (C.on y x v ly lx lv (C.back x y lx ly e)) (C.on x y v lx ly lv e))

own_class : (equal : ℕ → ℕ → Bool) (n : ℕ) (m : HeapStructure) → IsCongruence equal n m → (c : ℕ)
    → Contains (classes equal n) c → (c < n) × (class_of equal n c ≡ c)
own_class equal n m C c named =
    let of = from_map (class_of equal n) (numbers 0 n) c named in
    let lt : of.0 < n = omega (arith, below 0 n of.0 of.1) in
    let term = class_term equal n m C of.0 lt in
    let less : c < n = subst (λ u. u < n) of.2 term.0 in
    (less, sym (same_class equal n m C of.0 c lt less (subst (λ u. IsTrue (equal of.0 u)) of.2 term.1)) ∙ of.2)

class_of_null : (equal : ℕ → ℕ → Bool) (n : ℕ) → 0 < n → IsTrue (equal 0 0) → class_of equal n 0 ≡ 0
class_of_null equal zero l e = absurd (omega arith)
class_of_null equal (suc n) l e = ap (λ b. cond b 0 (first (equal 0) (numbers 1 n))) e

pub classes_are_models : ClassesAreModels
classes_are_models equal n m some C M = record {
  model =
      some_keep (λ t. t < n) (Contains (classes equal n)) (λ x y. IsTrue (equal x y)) (λ x y. x ≡ y) m
      (λ x c. (own x c).0) one hop M;
  named = named;
  own = own;
  null = class_of_null equal n some (C.itself 0 some);
  agrees = λ x y lx ly. (
    same_class equal n m C x y lx ly,
    λ e. C.on x (class_of equal n x) y lx (term x lx).0 ly (term x lx).1
        (subst (λ u. IsTrue (equal u y)) (sym e) (back y ly)),
  );
  alloc = λ x lx. (
    C.alloc x (class_of equal n x) lx (term x lx).0 (term x lx).1,
    C.alloc (class_of equal n x) x (term x lx).0 lx (back x lx),
  );
  hop = λ x v lx lv. (
    C.hop x (class_of equal n x) v (class_of equal n v) lx (term x lx).0 lv (term v lv).0 (term x lx).1 (term v lv).1,
    C.hop (class_of equal n x) x (class_of equal n v) v (term x lx).0 lx (term v lv).0 lv (back x lx) (back v lv),
  );
  between = λ x y z lx ly lz. (
    C.between x (class_of equal n x) y (class_of equal n y) z (class_of equal n z) lx (term x lx).0 ly (term y ly).0 lz
        (term z lz).0 (term x lx).1 (term y ly).1 (term z lz).1,
    C.between (class_of equal n x) x (class_of equal n y) y (class_of equal n z) z (term x lx).0 lx (term y ly).0 ly
        (term z lz).0 lz (back x lx) (back y ly) (back z lz),
  );
}
  where
    own : (c : ℕ) → Contains (classes equal n) c → (c < n) × (class_of equal n c ≡ c)
    own c = own_class equal n m C c

    term : (t : ℕ) → t < n → (class_of equal n t < n) × IsTrue (equal t (class_of equal n t))
    term t l = class_term equal n m C t l

    back : (t : ℕ) → t < n → IsTrue (equal (class_of equal n t) t)
    back t l = C.back t (class_of equal n t) l (class_term equal n m C t l).0 (class_term equal n m C t l).1

    named : (t : ℕ) → t < n → Contains (classes equal n) (class_of equal n t)
    named t l = mapped (class_of equal n) (numbers 0 n) t (numbered 0 n t (omega arith) (omega arith))

    one : (x y : ℕ) → Contains (classes equal n) x → Contains (classes equal n) y → IsTrue (equal x y) → x ≡ y
    one x y cx cy e =
        let ox = own_class equal n m C x cx in
        let oy = own_class equal n m C y cy in
        sym ox.1 ∙ same_class equal n m C x y ox.0 oy.0 e ∙ oy.1

    hop : (x v : ℕ) → Contains (classes equal n) x → v < n → IsTrue (m.hop x v)
        → (w : ℕ) × Contains (classes equal n) w × IsTrue (m.hop x w)
    hop x v cx lv a =
        let ox = own_class equal n m C x cx in
        let tv = class_term equal n m C v lv in (
          class_of equal n v,
          mapped (class_of equal n) (numbers 0 n) v (numbered 0 n v (omega arith) (omega arith)),
          C.hop x x v (class_of equal n v) ox.0 ox.0 lv tv.0 (C.itself x ox.0) tv.1 a,
        )

-- A function that follows the hops reaches what betweenness says.
use Rattle.std.specs.Prelude.{◌≡◌, ◌≢◌, ℕ, zero, suc, ◌≤◌, ◌<◌, List, false, IsTrue, Contains}
use Rattle.std.proofs.lemmas.Bool.{cases_eq, cases_Bool}
use Rattle.std.proofs.Common.{sym, ◌∙◌, subst, inl, inr, arith}
use Rattle.gh_assert.specs.Walks.{steps, IsDistance, IsBetween}
use Rattle.gh_assert.proofs.Steps.{distance_zero, distance_suc, distance_rest, moves}
use Rattle.gh_model.specs.Structures.{HeapStructure, IsModelOver}
use Rattle.gh_model.specs.Laws.{HopsAgree}
use Rattle.gh_model.proofs.heaps.Counts.{count, count_lt}

-- a value hops to one value at most
pub hops_agree : HopsAgree
hops_agree V m M x v w cx cv cw a b =
    let bv = M.linked.row_11 x v cx cv a in
    let bw = M.linked.row_11 x w cx cw b in
    elim (M.linked.row_12 x v w cx cv cw a bw) [
      | inl back ↦ M.linked.row_14 x v cx cv (subst (λ u. IsTrue (m.hop x u)) back b) bv ∙ sym back
      | inr vw ↦ elim (M.linked.row_12 x w v cx cw cv b bv) [
        | inl back ↦ back ∙ sym (M.linked.row_14 x w cx cw (subst (λ u. IsTrue (m.hop x u)) back a) bw)
        | inr wv ↦ sym (M.ordered.row_2 w v cw cv (M.ordered.row_10 x v w w cx cv cw cw vw wv))
      ]
    ]

-- f leads from each cell to where it hops, and leaves the other values of V as they are
pub record FollowsHops (V : List ℕ) (m : HeapStructure) (f : ℕ → ℕ) : Type 0 where
  pub named : (x : ℕ) → Contains V x → IsTrue (m.alloc x) → Contains V (f x)
  pub goes : (x : ℕ) → Contains V x → IsTrue (m.alloc x) → IsTrue (m.hop x (f x))
  pub stays : (x : ℕ) → Contains V x → m.alloc x ≡ false → f x ≡ x

-- x comes first among what it reaches
front : (V : List ℕ) (m : HeapStructure) → IsModelOver V m → (x z : ℕ) → Contains V x → Contains V z → x ≢ z
    → IsTrue (m.between x z z) → IsTrue (m.between x x z)
front V m M x z cx cz other b = elim (M.ordered.row_3 x x z cx cx cz (M.ordered.row_1 x cx) b) [
  | inl first ↦ first
  | inr back ↦ absurd (other (M.ordered.row_2 x z cx cz back))
]

-- the first step from x to another value z
record IsStep (V : List ℕ) (m : HeapStructure) (f : ℕ → ℕ) (x z : ℕ) : Type 0 where
  named : Contains V (f x)
  hop : IsTrue (m.hop x (f x))
  passes : IsTrue (m.between x (f x) z)
  rest : IsTrue (m.between (f x) z z)

step : (V : List ℕ) (m : HeapStructure) (f : ℕ → ℕ) → IsModelOver V m → FollowsHops V m f → (x z : ℕ) → Contains V x
    → Contains V z → x ≢ z → IsTrue (m.between x z z) → IsStep V m f x z
step V m f M F x z cx cz other b =
    let alloc : IsTrue (m.alloc x) = elim (M.linked.row_13 x z cx cz b) [ inl a ↦ a | inr e ↦ absurd (other e) ] in
    let named : Contains V (f x) = F.named x cx alloc in
    let hop : IsTrue (m.hop x (f x)) = F.goes x cx alloc in
    let passes : IsTrue (m.between x (f x) z) =
    elim (M.linked.row_12 x (f x) z cx named cz hop b) [ inl e ↦ absurd (other (sym e)) | inr p ↦ p ] in
    record { named = named; hop = hop; passes = passes; rest = M.ordered.row_5 x (f x) z cx named cz passes }

-- after the step fewer values are left up to z
fewer : (V : List ℕ) (m : HeapStructure) (f : ℕ → ℕ) → IsModelOver V m → (x z : ℕ) → Contains V x → Contains V z → x ≢ z
    → IsTrue (m.between x z z) → IsStep V m f x z → count (λ y. m.between (f x) y z) V < count (λ y. m.between x y z) V
fewer V m f M x z cx cz other b s =
    count_lt (λ y. m.between (f x) y z) (λ y. m.between x y z) V
    (λ y cy t. M.ordered.row_8 x (f x) y z cx s.named cy cz s.passes t) x cx gone (front V m M x z cx cz other b)
  where
    gone : m.between (f x) x z ≡ false
    gone = elim (cases_Bool (m.between (f x) x z)) [
      | inr off ↦ off
      | inl on ↦
          let same : x ≡ f x =
          M.ordered.row_2 x (f x) cx s.named (M.ordered.row_7 x (f x) x z cx s.named cx cz s.passes on) in
          absurd (other (sym (M.linked.row_14 x z cx cz (subst (λ u. IsTrue (m.hop x u)) (sym same) s.hop) b)))
    ]

from_start : (f : ℕ → ℕ) (x y z : ℕ) → x ≡ y → x ≢ z → IsBetween f (f x) z z → IsBetween f x y z
from_start f x y z e other b =
    record {
      end = suc b.end;
      distance = distance_suc f x z b.end other b.distance;
      at = 0;
      within = omega arith;
      passes = e;
    }

from_next : (f : ℕ → ℕ) (x y z : ℕ) → x ≢ z → IsBetween f (f x) y z → IsBetween f x y z
from_next f x y z other b = let w : b.at ≤ b.end = b.within in
    record {
      end = suc b.end;
      distance = distance_suc f x z b.end other b.distance;
      at = suc b.at;
      within = omega arith;
      passes = b.passes;
    }

-- x reaches what lies between it and another value
to_end : (V : List ℕ) (m : HeapStructure) → IsModelOver V m → (x y z : ℕ) → Contains V x → Contains V y → Contains V z
    → IsTrue (m.between x y z) → IsTrue (m.between x z z)
to_end V m M x y z cx cy cz b =
    M.ordered.row_6 x y z cx cy cz (M.ordered.row_4 x y z cx cy cz b) (M.ordered.row_5 x y z cx cy cz b)

at_end : (V : List ℕ) (m : HeapStructure) (f : ℕ → ℕ) → IsModelOver V m → (x y z : ℕ) → Contains V x → Contains V y
    → x ≡ z → IsTrue (m.between x y z) → IsBetween f x y z
at_end V m f M x y z cx cy same b =
    record {
      end = 0;
      distance = distance_zero f x z same;
      at = 0;
      within = omega arith;
      passes = M.ordered.row_2 x y cx cy (subst (λ u. IsTrue (m.between x y u)) (sym same) b);
    }

-- what is between in the structure is between on the walk, by induction on how many values there are up to z
walked : (V : List ℕ) (m : HeapStructure) (f : ℕ → ℕ) → IsModelOver V m → FollowsHops V m f → (k x y z : ℕ)
    → Contains V x → Contains V y → Contains V z → count (λ u. m.between x u z) V ≤ k → IsTrue (m.between x y z)
    → IsBetween f x y z
walked V m f M F zero x y z cx cy cz l b = elim (cases_eq x z) [
  | inl same ↦ at_end V m f M x y z cx cy same b
  | inr other ↦
      let all = to_end V m M x y z cx cy cz b in
      absurd (omega (arith, l, fewer V m f M x z cx cz other all (step V m f M F x z cx cz other all)))
]
walked V m f M F (suc k) x y z cx cy cz l b = elim (cases_eq x z) [
  | inl same ↦ at_end V m f M x y z cx cy same b
  | inr other ↦
      let all = to_end V m M x y z cx cy cz b in
      let s = step V m f M F x z cx cz other all in
      let less : count (λ u. m.between (f x) u z) V ≤ k = omega (arith, l, fewer V m f M x z cx cz other all s) in
      elim (cases_eq x y) [
        | inl start ↦ from_start f x y z start other (walked V m f M F k (f x) z z s.named cz cz less s.rest)
        | inr later ↦ elim (M.linked.row_12 x (f x) y cx s.named cy s.hop (M.ordered.row_4 x y z cx cy cz b)) [
          | inl back ↦ absurd (later (sym back))
          | inr first ↦ from_next f x y z other
              (walked V m f M F k (f x) y z s.named cy cz less (M.ordered.row_10 x y (f x) z cx cy s.named cz b first))
        ]
      ]
]

-- a step of the walk is one of the structure, if the rest of the walk is
step_of_walk : (V : List ℕ) (m : HeapStructure) (f : ℕ → ℕ) → IsModelOver V m → FollowsHops V m f → (j x z : ℕ)
    → Contains V x → Contains V z → IsDistance f x z (suc j) → (Contains V (f x) → IsTrue (m.between (f x) z z))
    → IsStep V m f x z
step_of_walk V m f M F j x z cx cz d rest = elim (cases_Bool (m.alloc x)) [
  | inr off ↦ absurd (moves d 0 (omega arith) (F.stays x cx off))
  | inl on ↦
      let named = F.named x cx on in
      let hop = F.goes x cx on in
      let all = M.ordered.row_6 x (f x) z cx named cz (M.linked.row_11 x (f x) cx named hop) (rest named) in
      elim (M.linked.row_12 x (f x) z cx named cz hop all) [
        | inl back ↦ absurd (d.before 0 (omega arith) (sym back))
        | inr passes ↦ record { named = named; hop = hop; passes = passes; rest = rest named }
      ]
]

-- what is between on the walk is between in the structure, by induction on the distance
ordered : (V : List ℕ) (m : HeapStructure) (f : ℕ → ℕ) → IsModelOver V m → FollowsHops V m f → (j i x y z : ℕ)
    → Contains V x → Contains V y → Contains V z → IsDistance f x z j → i ≤ j → steps f i x ≡ y
    → IsTrue (m.between x y z)
ordered V m f M F zero zero x y z cx cy cz d l e =
    subst (λ u. IsTrue (m.between x u z)) e (subst (λ u. IsTrue (m.between x x u)) d.arrives (M.ordered.row_1 x cx))
ordered V m f M F zero (suc i) x y z cx cy cz d l e = absurd (omega arith)
ordered V m f M F (suc j) zero x y z cx cy cz d l e =
    let d' : IsDistance f (f x) z j = distance_rest d 1 j (omega arith) in
    let s =
    step_of_walk V m f M F j x z cx cz d
    (λ named. ordered V m f M F j j (f x) z z named cz cz d' (omega arith) d'.arrives) in
    subst (λ u. IsTrue (m.between x u z)) e
    (front V m M x z cx cz (d.before 0 (omega arith)) (to_end V m M x (f x) z cx s.named cz s.passes))
ordered V m f M F (suc j) (suc i) x y z cx cy cz d l e =
    let d' : IsDistance f (f x) z j = distance_rest d 1 j (omega arith) in
    let s =
    step_of_walk V m f M F j x z cx cz d
    (λ named. ordered V m f M F j j (f x) z z named cz cz d' (omega arith) d'.arrives) in
    M.ordered.row_8 x (f x) y z cx s.named cy cz s.passes
    (ordered V m f M F j i (f x) y z s.named cy cz d' (omega arith) e)

pub walk_between : (V : List ℕ) (m : HeapStructure) (f : ℕ → ℕ) → IsModelOver V m → FollowsHops V m f → (x y z : ℕ)
    → Contains V x → Contains V y → Contains V z → IsTrue (m.between x y z) → IsBetween f x y z
walk_between V m f M F x y z cx cy cz b =
    walked V m f M F (count (λ u. m.between x u z) V) x y z cx cy cz (omega arith) b

pub between_walk : (V : List ℕ) (m : HeapStructure) (f : ℕ → ℕ) → IsModelOver V m → FollowsHops V m f → (x y z : ℕ)
    → Contains V x → Contains V y → Contains V z → IsBetween f x y z → IsTrue (m.between x y z)
between_walk V m f M F x y z cx cy cz b = ordered V m f M F b.end b.at x y z cx cy cz b.distance b.within b.passes

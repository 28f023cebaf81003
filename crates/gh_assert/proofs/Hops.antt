-- Hops exist, and go with betweenness.
use Rattle.std.specs.Prelude.{◌≡◌, ◌≢◌, ◌⊎◌, ℕ, zero, suc, ◌-◌, ◌≤◌, ◌<◌, List, length, Some, Contains}
use Rattle.std.specs.FinMap.{get, entries}
use Rattle.std.proofs.lemmas.Bool.{cases_eq, cases_lt}
use Rattle.std.proofs.Common.{refl, sym, ◌∙◌, ap, subst, inl, inr, arith}
use Rattle.gh_assert.specs.Heaps.{Heap}
use Rattle.gh_assert.specs.Walks.{succ, walk, Allocated, Between}
use Rattle.gh_assert.specs.Ownership.{IsUnnamed, Owned}
use Rattle.gh_assert.specs.Hops.{Hop}
use Rattle.gh_assert.specs.Laws.{HopsExist, HopRowsHold}
use Rattle.gh_assert.proofs.Steps.{steps_add}
use Rattle.gh_assert.proofs.Rows.{between_from}
use Rattle.gh_assert.proofs.Cells.{at_succ}
use Rattle.gh_assert.proofs.Owned.{named_or, walk_suc}
use Rattle.gh_assert.proofs.Tests.{walk_short}

-- among the first steps one meets a named value first, or none does
first_named : (V : List ℕ) (h : Heap) (x : ℕ) → Allocated h x → (k : ℕ)
    → ((i : ℕ) → i < k → IsUnnamed V (walk h (suc i) x)) ⊎ ((v : ℕ) × Hop V h x v)
first_named V h x a zero = inl (λ i l. absurd (omega arith))
first_named V h x a (suc k) = elim (first_named V h x a k) [
  | inr hop ↦ inr hop
  | inl none ↦ elim (named_or V (walk h (suc k) x)) [
    | inl named ↦ inr (
      walk h (suc k) x,
      record { allocated = a; named = named; between = k; arrives = refl; unnamed = none },
    )
    | inr out ↦ inl (λ i l. elim (cases_eq i k) [
      | inl same ↦ subst (λ j. IsUnnamed V (walk h (suc j) x)) (sym same) out
      | inr other ↦ none i (omega arith)
    ])
  ]
]

-- what comes before an unnamed place on a walk from a cell is a cell
pub goes_through : (V : List ℕ) (h : Heap) (x : ℕ) → Owned V h → Allocated h x → (k : ℕ)
    → ((i : ℕ) → i < k → IsUnnamed V (walk h (suc i) x)) → (j : ℕ) → j ≤ k
    → get h (walk h j x) ≡ Some (walk h (suc j) x)
goes_through V h x own a k none zero l = at_succ h x a
goes_through V h x own a k none (suc j) l =
    elim (own.points (walk h j x) (walk h (suc j) x) (goes_through V h x own a k none j (omega arith))) [
      | inl named ↦ absurd (none j (omega arith) named)
      | inr b ↦ at_succ h (walk h (suc j) x) b ∙ ap Some (sym (walk_suc h (suc j) x))
    ]

-- a walk that meets no named value never meets a place again
never_again : (V : List ℕ) (h : Heap) (x : ℕ) → Owned V h → Contains V x → Allocated h x → (k : ℕ)
    → ((i : ℕ) → i < k → IsUnnamed V (walk h (suc i) x)) → (j : ℕ) → j < k → walk h j x ≢ walk h k x
never_again V h x own named a zero none j l e = absurd (omega arith)
never_again V h x own named a (suc k) none zero l e = none k (omega arith) (subst (Contains V) e named)
never_again V h x own named a (suc k) none (suc j) l e =
    never_again V h x own named a k (λ i w. none i (omega arith)) j (omega arith)
    (own.one_predecessor (walk h (suc k) x) (walk h j x) (walk h k x) (none k (omega arith))
    (goes_through V h x own a (suc k) none j (omega arith) ∙ ap Some e)
    (goes_through V h x own a (suc k) none k (omega arith)))

pub hops_exist : HopsExist
hops_exist V h x null own named a = elim (first_named V h x a (suc (length (entries h)))) [
  | inr hop ↦ hop
  | inl none ↦
      let k = suc (length (entries h)) in
      absurd (omega (
        arith,
        walk_short h x (walk h k x) k null
            (record { arrives = refl; before = never_again V h x own named a k none }),
      ))
]

-- another named place on the walk comes after the hop
hop_first : (V : List ℕ) (h : Heap) (x v w : ℕ) → (hop : Hop V h x v) → Contains V w → w ≢ x → (j : ℕ) → walk h j x ≡ w
    → hop.between < j
hop_first V h x v w hop named other zero e = absurd (other (sym e))
hop_first V h x v w hop named other (suc i) e = elim (cases_lt i hop.between) [
  | inl l ↦ absurd (hop.unnamed i l (subst (Contains V) (sym e) named))
  | inr g ↦ omega arith
]

row_12 : (V : List ℕ) (h : Heap) (x v w : ℕ) → Contains V w → Hop V h x v → Between h x w w → (w ≡ x) ⊎ Between h x v w
row_12 V h x v w named hop b = elim (cases_eq w x) [
  | inl same ↦ inl same
  | inr other ↦ inr (record {
    end = b.end;
    distance = b.distance;
    at = suc hop.between;
    within = hop_first V h x v w hop named other b.end b.distance.arrives;
    passes = hop.arrives;
  })
]

row_14 : (V : List ℕ) (h : Heap) (x w : ℕ) → Contains V w → Hop V h x x → Between h x w w → w ≡ x
row_14 V h x w named hop b = elim (cases_eq w x) [
  | inl same ↦ same
  | inr other ↦
      let later : hop.between < b.end = hop_first V h x x w hop named other b.end b.distance.arrives in
      let rest = b.end - suc hop.between in
      absurd (b.distance.before rest (omega arith)
      (ap (walk h rest) (sym hop.arrives) ∙ sym (steps_add (succ h) b.end (suc hop.between) rest x (omega arith))
      ∙ b.distance.arrives))
]

pub hop_rows : HopRowsHold
hop_rows V h = record {
  rows = record {
    row_11 = λ x v hop. between_from (suc hop.between, hop.arrives);
    row_12 = row_12 V h;
    row_14 = row_14 V h;
    row_15 = λ x v hop. hop.allocated;
  };
  content = λ x a named. record {
    allocated = a;
    named = named;
    between = 0;
    arrives = refl;
    unnamed = λ i l. absurd (omega arith);
  };
}

-- What ownership gives: the last named cell, and sets of places that go with the walks.
use Rattle.std.specs.Prelude.{◌≡◌, ◌⊎◌, ℕ, zero, suc, ◌<◌, List, Some, [], ◌∷◌, Contains}
use Rattle.std.specs.FinMap.{get}
use Rattle.std.proofs.lemmas.Bool.{cases_eq}
use Rattle.std.proofs.Common.{refl, sym, ◌∙◌, ap, subst, inl, inr, arith}
use Rattle.gh_assert.specs.Heaps.{Heap}
use Rattle.gh_assert.specs.Walks.{succ, walk, Allocated}
use Rattle.gh_assert.specs.Ownership.{IsUnnamed, IsPointedToOnce, Owned, LastNamed}
use Rattle.gh_assert.proofs.Steps.{steps_suc}
use Rattle.gh_assert.proofs.Cells.{allocated_or, at_succ, succ_stays}

pub later_one : (v x : ℕ) (vs : List ℕ) → Contains vs x → Contains (v ∷ vs) x
later_one v x vs (k, l, e) = (suc k, omega arith, e)

pub first_or_later : (v x : ℕ) (vs : List ℕ) → Contains (v ∷ vs) x → (v ≡ x) ⊎ Contains vs x
first_or_later v x vs (zero, l, e) = inl e
first_or_later v x vs (suc k, l, e) = inr (k, omega arith, e)

pub named_or : (V : List ℕ) (x : ℕ) → Contains V x ⊎ IsUnnamed V x
named_or [] x = inr (λ c. absurd (omega (arith, c.1)))
named_or (v ∷ vs) x = elim (cases_eq v x) [
  | inl same ↦ inl (0, omega arith, same)
  | inr other ↦ elim (named_or vs x) [
    | inl c ↦ inl (later_one v x vs c)
    | inr n ↦ inr (λ c. elim (first_or_later v x vs c) [ inl e ↦ other e | inr c' ↦ n c' ])
  ]
]

pub walk_suc : (h : Heap) (n x : ℕ) → walk h (suc n) x ≡ succ h (walk h n x)
walk_suc h n x = steps_suc (succ h) n x

on_walk : (V : List ℕ) (h : Heap) (P : ℕ → Type 0) → ((z : ℕ) → Contains V z → P z)
    → ((cell : ℕ) → Allocated h cell → IsUnnamed V (succ h cell) → P cell → P (succ h cell)) → (n k : ℕ) → Contains V n
    → P (walk h k n)
on_walk V h P named step n zero c = named n c
on_walk V h P named step n (suc k) c = subst P (sym (walk_suc h k n)) (elim (named_or V (succ h (walk h k n))) [
  | inl c' ↦ named _ c'
  | inr un ↦ elim (allocated_or h (walk h k n)) [
    | inl a ↦ step (walk h k n) a un (on_walk V h P named step n k c)
    | inr out ↦ subst P (sym (succ_stays h (walk h k n) out)) (on_walk V h P named step n k c)
  ]
])

-- induction over an owned heap: P holds of each cell, if it holds of what is named, and of an unnamed place where it
-- holds of a cell that points there
pub owned_induction : (V : List ℕ) (h : Heap) → Owned V h → (P : ℕ → Type 0) → ((z : ℕ) → Contains V z → P z)
    → ((cell : ℕ) → Allocated h cell → IsUnnamed V (succ h cell) → P cell → P (succ h cell)) → (c : ℕ) → Allocated h c
    → P c
owned_induction V h own P named step c a = elim (named_or V c) [
  | inl n ↦ named c n
  | inr un ↦ let from = own.reached c a un in subst P from.4 (on_walk V h P named step from.0 from.1 from.2)
]

pub one_points : (V : List ℕ) (h : Heap) → Owned V h → (c : ℕ) → Allocated h c → IsUnnamed V c → IsPointedToOnce h c
one_points V h own c a un =
    let from : (p : ℕ) × (get h p ≡ Some c) =
    owned_induction V h own (λ z. IsUnnamed V z → (p : ℕ) × (get h p ≡ Some z)) (λ z n out. absurd (out n))
    (λ p b out _ _. (p, at_succ h p b)) c a un in
    record { from = from.0; points = from.1; alone = λ q e. own.one_predecessor c q from.0 un e from.1 }

first_unnamed : (V : List ℕ) (h : Heap) (p : ℕ) → Contains V p → Allocated h p → IsUnnamed V (succ h p)
    → LastNamed V h (succ h p)
first_unnamed V h p named a un =
    record { start = p; count = 1; named = named; allocated = a; some = omega arith; arrives = refl; unnamed = only }
  where
    only : (i : ℕ) → i < 1 → IsUnnamed V (walk h (suc i) p)
    only zero l = un
    only (suc i) l = absurd (omega arith)

next_unnamed : (V : List ℕ) (h : Heap) (p : ℕ) → LastNamed V h p → IsUnnamed V (succ h p) → LastNamed V h (succ h p)
next_unnamed V h p last un =
    let next : walk h (suc last.count) last.start ≡ succ h p =
    walk_suc h last.count last.start ∙ ap (succ h) last.arrives in
    record {
      start = last.start;
      count = suc last.count;
      named = last.named;
      allocated = last.allocated;
      some = omega arith;
      arrives = next;
      unnamed = λ i l. elim (cases_eq i last.count) [
        | inl same ↦ subst (IsUnnamed V) (sym (ap (λ j. walk h (suc j) last.start) same ∙ next)) un
        | inr other ↦ last.unnamed i (omega arith)
      ];
    }

pub last_named : (V : List ℕ) (h : Heap) → Owned V h → (c : ℕ) → Allocated h c → IsUnnamed V c → LastNamed V h c
last_named V h own c a un =
    elim (owned_induction V h own (λ z. Contains V z ⊎ LastNamed V h z) (λ z n. inl n) step c a)
    [ inl n ↦ absurd (un n) | inr last ↦ last ]
  where
    step : (p : ℕ) → Allocated h p → IsUnnamed V (succ h p) → Contains V p ⊎ LastNamed V h p
        → Contains V (succ h p) ⊎ LastNamed V h (succ h p)
    step p b out (inl n) = inr (first_unnamed V h p n b out)
    step p b out (inr last) = inr (next_unnamed V h p last out)

-- P goes backwards: what is unnamed in it is pointed to from within it
abbrev pub GoesBack : List ℕ → Heap → (ℕ → Type 0) → Type 0
GoesBack V h P = (c : ℕ) → P c → IsUnnamed V c → (cell : ℕ) × (get h cell ≡ Some c) × P cell

-- P goes onwards: what is unnamed and pointed to from within it is in it
abbrev pub GoesOn : List ℕ → Heap → (ℕ → Type 0) → Type 0
GoesOn V h P = (cell c : ℕ) → P cell → get h cell ≡ Some c → IsUnnamed V c → P c

-- what comes from within P to an unnamed place comes from each cell that points there
pub before_it : (V : List ℕ) (h : Heap) → Owned V h → (P : ℕ → Type 0) → GoesBack V h P → (cell : ℕ) → Allocated h cell
    → IsUnnamed V (succ h cell) → P (succ h cell) → P cell
before_it V h own P back cell a un here =
    let from = back (succ h cell) here un in
    subst P (own.one_predecessor (succ h cell) from.0 cell un from.1 (at_succ h cell a)) from.2

-- two sets that go backwards and share no named place share none
pub apart_everywhere : (V : List ℕ) (h : Heap) → Owned V h → (P Q : ℕ → Type 0) → GoesBack V h P → GoesBack V h Q
    → ((z : ℕ) → Contains V z → P z → Q z → ⊥) → (z : ℕ) → P z → Q z → ⊥
apart_everywhere V h own P Q left right apart z u v = elim (named_or V z) [
  | inl c ↦ apart z c u v
  | inr un ↦ elim (own.points (left z u un).0 z (left z u un).1) [
    | inl c ↦ un c
    | inr a ↦ owned_induction V h own (λ y. P y → Q y → ⊥) apart
        (λ y b out none s t. none (before_it V h own P left y b out s) (before_it V h own Q right y b out t)) z a u v
  ]
]

-- a set that goes onwards and has every named cell has every cell
pub all_everywhere : (V : List ℕ) (h : Heap) → Owned V h → (P : ℕ → Type 0) → GoesOn V h P
    → ((z : ℕ) → Contains V z → Allocated h z → P z) → (z : ℕ) → Allocated h z → P z
all_everywhere V h own P on all z a =
    owned_induction V h own (λ y. Allocated h y → P y) all
    (λ y b un here _. on y (succ h y) (here b) (at_succ h y b) un) z a a

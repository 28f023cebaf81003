-- From models to true instances of the axioms.
use Rattle.std.specs.Prelude.{◌≡◌, ◌⊎◌, ℕ, ◌<◌, min, max, List, [], ◌∷◌, map, drop, get_or, Bool, true, false, not}
use Rattle.std.specs.Prelude.{◌||◌, nat_eq, IsTrue, All}
use Rattle.std.specs.List.{range_with_len}
use Rattle.std.proofs.lemmas.Bool.{false≢true}
use Rattle.std.proofs.lemmas.List.Folds.{Any-from_list_any}
use Rattle.std.proofs.lemmas.List.Elements.{All-nil, All-cons, All-head, All-tail, All-weaker, All-map}
use Rattle.std.proofs.Common.{refl, ◌∙◌, inl, inr, arith}
use Rattle.gh_base.specs.declared.atom.Term.{Term}
use Rattle.gh_base.specs.declared.atom.Atom.TheVariants.{Btwn, Hop, Alloc}
use Rattle.gh_base.specs.Meaning.{Interpretation, lit_truth}
use Rattle.gh_base.specs.Atoms.{term}
use Rattle.gh_inst.specs.Table.{AxiomRow, row, table}
use Rattle.gh_inst.specs.Tuples.{tuples}
use Rattle.gh_inst.specs.Instances.{name_of, clause_of, row_instances}
use Rattle.gh_inst.specs.Violations.{IsInstanceTrue}
use Rattle.gh_inst.proofs.SearchLemmas.{all_joined, range_below, tuples_are, IsTuple}
use Rattle.gh_model.specs.Structures.{HeapStructure, IsModelOver}
use Rattle.gh_model.specs.Homomorphisms.{IsHomomorphism, InstancesHold}
use Rattle.gh_model.proofs.reading.Assertions.{equal_truth}

-- clauses, by their signs
one : (a : Bool) → IsTrue a → (a || false) ≡ true
one true e = refl
one false e = absurd (false≢true e)

either : (a b : Bool) → IsTrue a ⊎ (b ≡ true) → (a || b) ≡ true
either true b e = refl
either false b e = elim e [ inl f ↦ absurd (false≢true f) | inr f ↦ f ]

under : (a b : Bool) → (IsTrue a → b ≡ true) → (not a || b) ≡ true
under true b f = f refl
under false b f = refl

from_one : (a b : Bool) → (IsTrue a → IsTrue b) → (not a || (b || false)) ≡ true
from_one a b f = under a (b || false) (λ e. one b (f e))

from_two : (a b c : Bool) → (IsTrue a → IsTrue b → IsTrue c) → (not a || (not b || (c || false))) ≡ true
from_two a b c f = under a (not b || (c || false)) (λ e. from_one b c (f e))

one_of_two : (a b c d : Bool) → (IsTrue a → IsTrue b → IsTrue c ⊎ IsTrue d)
    → (not a || (not b || (c || (d || false)))) ≡ true
one_of_two a b c d f =
    under a (not b || (c || (d || false)))
    (λ e. under b (c || (d || false))
    (λ g. either c (d || false) (elim (f e g) [ inl h ↦ inl h | inr h ↦ inr (one d h) ])))

-- a cell, or a pair that is not apart
thirteen : (a b c : Bool) → (IsTrue b → IsTrue a ⊎ IsTrue c) → (a || (not b || (c || false))) ≡ true
thirteen true b c f = refl
thirteen false b c f = from_one b c (λ e. elim (f e) [ inl g ↦ absurd (false≢true g) | inr g ↦ g ])

-- the instances of a row
row_true : (m : Interpretation) (n versions : ℕ) (r : AxiomRow)
    → ((i : ℕ) → i < versions → (tuple : List Term) → IsTuple r.variables n tuple
    → IsInstanceTrue m (name_of r.number i tuple)) → All (IsInstanceTrue m) (row_instances n versions r)
row_true m n versions r each =
    all_joined (IsInstanceTrue m) (λ version. map (name_of r.number version) (tuples r.variables n))
    (range_with_len 0 versions)
    (All-weaker (λ k. k < versions)
    (λ version. All (IsInstanceTrue m) (map (name_of r.number version) (tuples r.variables n)))
    (λ version below. All-map (IsInstanceTrue m) (name_of r.number version) (tuples r.variables n)
    (All-weaker (IsTuple r.variables n) (λ tuple. IsInstanceTrue m (name_of r.number version tuple))
    (λ tuple is. each version below tuple is) (tuples r.variables n) (tuples_are r.variables n)))
    (range_with_len 0 versions) (range_below 0 versions versions (omega arith)))

-- the terms of a tuple
abbrev Below : ℕ → Term → Type 0
Below n t = t.0 < n

of_1 : (n : ℕ) (P : List Term → Type 0) → ((x : ℕ) → x < n → P (term x ∷ [])) → (tuple : List Term) → IsTuple 1 n tuple
    → P tuple
of_1 n P f [] is = absurd (omega (arith, is.0))
of_1 n P f (a ∷ []) is = f a.0 (All-head (Below n) a ([]) is.1)
of_1 n P f (a ∷ e ∷ es) is = absurd (omega (arith, is.0))

of_2 : (n : ℕ) (P : List Term → Type 0) → ((x y : ℕ) → x < n → y < n → P (term x ∷ term y ∷ [])) → (tuple : List Term)
    → IsTuple 2 n tuple → P tuple
of_2 n P f [] is = absurd (omega (arith, is.0))
of_2 n P f (a ∷ []) is = absurd (omega (arith, is.0))
of_2 n P f (a ∷ b ∷ []) is =
    f a.0 b.0 (All-head (Below n) a (b ∷ []) is.1) (All-head (Below n) b ([]) (All-tail (Below n) a (b ∷ []) is.1))
of_2 n P f (a ∷ b ∷ e ∷ es) is = absurd (omega (arith, is.0))

of_3 : (n : ℕ) (P : List Term → Type 0) → ((x y z : ℕ) → x < n → y < n → z < n → P (term x ∷ term y ∷ term z ∷ []))
    → (tuple : List Term) → IsTuple 3 n tuple → P tuple
of_3 n P f [] is = absurd (omega (arith, is.0))
of_3 n P f (a ∷ []) is = absurd (omega (arith, is.0))
of_3 n P f (a ∷ b ∷ []) is = absurd (omega (arith, is.0))
of_3 n P f (a ∷ b ∷ c ∷ []) is =
    f a.0 b.0 c.0 (All-head (Below n) a (b ∷ c ∷ []) is.1)
    (All-head (Below n) b (c ∷ []) (All-tail (Below n) a (b ∷ c ∷ []) is.1))
    (All-head (Below n) c ([]) (All-tail (Below n) b (c ∷ []) (All-tail (Below n) a (b ∷ c ∷ []) is.1)))
of_3 n P f (a ∷ b ∷ c ∷ e ∷ es) is = absurd (omega (arith, is.0))

of_4 : (n : ℕ) (P : List Term → Type 0)
    → ((x y u z : ℕ) → x < n → y < n → u < n → z < n → P (term x ∷ term y ∷ term u ∷ term z ∷ [])) → (tuple : List Term)
    → IsTuple 4 n tuple → P tuple
of_4 n P f [] is = absurd (omega (arith, is.0))
of_4 n P f (a ∷ []) is = absurd (omega (arith, is.0))
of_4 n P f (a ∷ b ∷ []) is = absurd (omega (arith, is.0))
of_4 n P f (a ∷ b ∷ c ∷ []) is = absurd (omega (arith, is.0))
of_4 n P f (a ∷ b ∷ c ∷ d ∷ []) is =
    f a.0 b.0 c.0 d.0 (All-head (Below n) a (b ∷ c ∷ d ∷ []) is.1)
    (All-head (Below n) b (c ∷ d ∷ []) (All-tail (Below n) a (b ∷ c ∷ d ∷ []) is.1))
    (All-head (Below n) c (d ∷ []) (All-tail (Below n) b (c ∷ d ∷ []) (All-tail (Below n) a (b ∷ c ∷ d ∷ []) is.1)))
    (All-head (Below n) d ([])
    (All-tail (Below n) c (d ∷ []) (All-tail (Below n) b (c ∷ d ∷ []) (All-tail (Below n) a (b ∷ c ∷ d ∷ []) is.1))))
of_4 n P f (a ∷ b ∷ c ∷ d ∷ e ∷ es) is = absurd (omega (arith, is.0))

row_1_true : (m : Interpretation) (i n : ℕ) (at : ℕ → ℕ) (V : List ℕ) (M : HeapStructure) → IsModelOver V M
    → IsHomomorphism m i n at V M → (tuple : List Term) → IsTuple 1 n tuple → IsInstanceTrue m (name_of 1 i tuple)
row_1_true m i n at V M R S =
    of_1 n (λ tuple. IsInstanceTrue m (name_of 1 i tuple))
    (λ x lx. Any-from_list_any (lit_truth m) (clause_of (name_of 1 i (term x ∷ [])))
    (one (m.table (Btwn i (term x) (term x) (term x)))
    ((S.between x x x lx lx lx).1 (R.ordered.row_1 (at x) (S.named x lx)))))

row_2_true : (m : Interpretation) (i n : ℕ) (at : ℕ → ℕ) (V : List ℕ) (M : HeapStructure) → IsModelOver V M
    → IsHomomorphism m i n at V M → (tuple : List Term) → IsTuple 2 n tuple → IsInstanceTrue m (name_of 2 i tuple)
row_2_true m i n at V M R S =
    of_2 n (λ tuple. IsInstanceTrue m (name_of 2 i tuple))
    (λ x y lx ly. Any-from_list_any (lit_truth m) (clause_of (name_of 2 i (term x ∷ term y ∷ [])))
    (from_one (m.table (Btwn i (term x) (term y) (term x))) (nat_eq (m.class (min x y)) (m.class (max x y)))
    (λ a. (equal_truth m x y ∙ (S.equal x y lx ly).1
    (R.ordered.row_2 (at x) (at y) (S.named x lx) (S.named y ly) ((S.between x y x lx ly lx).0 a))))))

row_3_true : (m : Interpretation) (i n : ℕ) (at : ℕ → ℕ) (V : List ℕ) (M : HeapStructure) → IsModelOver V M
    → IsHomomorphism m i n at V M → (tuple : List Term) → IsTuple 3 n tuple → IsInstanceTrue m (name_of 3 i tuple)
row_3_true m i n at V M R S =
    of_3 n (λ tuple. IsInstanceTrue m (name_of 3 i tuple))
    (λ x y z lx ly lz. Any-from_list_any (lit_truth m) (clause_of (name_of 3 i (term x ∷ term y ∷ term z ∷ [])))
    (one_of_two (m.table (Btwn i (term x) (term y) (term y))) (m.table (Btwn i (term x) (term z) (term z)))
    (m.table (Btwn i (term x) (term y) (term z))) (m.table (Btwn i (term x) (term z) (term y)))
    (λ a b. elim (R.ordered.row_3 (at x) (at y) (at z) (S.named x lx) (S.named y ly) (S.named z lz)
    ((S.between x y y lx ly ly).0 a) ((S.between x z z lx lz lz).0 b))
    [ inl c ↦ inl ((S.between x y z lx ly lz).1 c) | inr c ↦ inr ((S.between x z y lx lz ly).1 c) ])))

row_4_true : (m : Interpretation) (i n : ℕ) (at : ℕ → ℕ) (V : List ℕ) (M : HeapStructure) → IsModelOver V M
    → IsHomomorphism m i n at V M → (tuple : List Term) → IsTuple 3 n tuple → IsInstanceTrue m (name_of 4 i tuple)
row_4_true m i n at V M R S =
    of_3 n (λ tuple. IsInstanceTrue m (name_of 4 i tuple))
    (λ x y z lx ly lz. Any-from_list_any (lit_truth m) (clause_of (name_of 4 i (term x ∷ term y ∷ term z ∷ [])))
    (from_one (m.table (Btwn i (term x) (term y) (term z))) (m.table (Btwn i (term x) (term y) (term y)))
    (λ a. (S.between x y y lx ly ly).1
    (R.ordered.row_4 (at x) (at y) (at z) (S.named x lx) (S.named y ly) (S.named z lz)
    ((S.between x y z lx ly lz).0 a)))))

row_5_true : (m : Interpretation) (i n : ℕ) (at : ℕ → ℕ) (V : List ℕ) (M : HeapStructure) → IsModelOver V M
    → IsHomomorphism m i n at V M → (tuple : List Term) → IsTuple 3 n tuple → IsInstanceTrue m (name_of 5 i tuple)
row_5_true m i n at V M R S =
    of_3 n (λ tuple. IsInstanceTrue m (name_of 5 i tuple))
    (λ x y z lx ly lz. Any-from_list_any (lit_truth m) (clause_of (name_of 5 i (term x ∷ term y ∷ term z ∷ [])))
    (from_one (m.table (Btwn i (term x) (term y) (term z))) (m.table (Btwn i (term y) (term z) (term z)))
    (λ a. (S.between y z z ly lz lz).1
    (R.ordered.row_5 (at x) (at y) (at z) (S.named x lx) (S.named y ly) (S.named z lz)
    ((S.between x y z lx ly lz).0 a)))))

row_6_true : (m : Interpretation) (i n : ℕ) (at : ℕ → ℕ) (V : List ℕ) (M : HeapStructure) → IsModelOver V M
    → IsHomomorphism m i n at V M → (tuple : List Term) → IsTuple 3 n tuple → IsInstanceTrue m (name_of 6 i tuple)
row_6_true m i n at V M R S =
    of_3 n (λ tuple. IsInstanceTrue m (name_of 6 i tuple))
    (λ x y z lx ly lz. Any-from_list_any (lit_truth m) (clause_of (name_of 6 i (term x ∷ term y ∷ term z ∷ [])))
    (from_two (m.table (Btwn i (term x) (term y) (term y))) (m.table (Btwn i (term y) (term z) (term z)))
    (m.table (Btwn i (term x) (term z) (term z)))
    (λ a b. (S.between x z z lx lz lz).1
    (R.ordered.row_6 (at x) (at y) (at z) (S.named x lx) (S.named y ly) (S.named z lz)
    ((S.between x y y lx ly ly).0 a) ((S.between y z z ly lz lz).0 b)))))

row_7_true : (m : Interpretation) (i n : ℕ) (at : ℕ → ℕ) (V : List ℕ) (M : HeapStructure) → IsModelOver V M
    → IsHomomorphism m i n at V M → (tuple : List Term) → IsTuple 4 n tuple → IsInstanceTrue m (name_of 7 i tuple)
row_7_true m i n at V M R S =
    of_4 n (λ tuple. IsInstanceTrue m (name_of 7 i tuple))
    (λ x y u z lx ly lu lz. Any-from_list_any (lit_truth m)
    (clause_of (name_of 7 i (term x ∷ term y ∷ term u ∷ term z ∷ [])))
    (from_two (m.table (Btwn i (term x) (term y) (term z))) (m.table (Btwn i (term y) (term u) (term z)))
    (m.table (Btwn i (term x) (term y) (term u)))
    (λ a b. (S.between x y u lx ly lu).1
    (R.ordered.row_7 (at x) (at y) (at u) (at z) (S.named x lx) (S.named y ly) (S.named u lu) (S.named z lz)
    ((S.between x y z lx ly lz).0 a) ((S.between y u z ly lu lz).0 b)))))

row_8_true : (m : Interpretation) (i n : ℕ) (at : ℕ → ℕ) (V : List ℕ) (M : HeapStructure) → IsModelOver V M
    → IsHomomorphism m i n at V M → (tuple : List Term) → IsTuple 4 n tuple → IsInstanceTrue m (name_of 8 i tuple)
row_8_true m i n at V M R S =
    of_4 n (λ tuple. IsInstanceTrue m (name_of 8 i tuple))
    (λ x y u z lx ly lu lz. Any-from_list_any (lit_truth m)
    (clause_of (name_of 8 i (term x ∷ term y ∷ term u ∷ term z ∷ [])))
    (from_two (m.table (Btwn i (term x) (term y) (term z))) (m.table (Btwn i (term y) (term u) (term z)))
    (m.table (Btwn i (term x) (term u) (term z)))
    (λ a b. (S.between x u z lx lu lz).1
    (R.ordered.row_8 (at x) (at y) (at u) (at z) (S.named x lx) (S.named y ly) (S.named u lu) (S.named z lz)
    ((S.between x y z lx ly lz).0 a) ((S.between y u z ly lu lz).0 b)))))

row_9_true : (m : Interpretation) (i n : ℕ) (at : ℕ → ℕ) (V : List ℕ) (M : HeapStructure) → IsModelOver V M
    → IsHomomorphism m i n at V M → (tuple : List Term) → IsTuple 4 n tuple → IsInstanceTrue m (name_of 9 i tuple)
row_9_true m i n at V M R S =
    of_4 n (λ tuple. IsInstanceTrue m (name_of 9 i tuple))
    (λ x y u z lx ly lu lz. Any-from_list_any (lit_truth m)
    (clause_of (name_of 9 i (term x ∷ term y ∷ term u ∷ term z ∷ [])))
    (from_two (m.table (Btwn i (term x) (term y) (term z))) (m.table (Btwn i (term x) (term u) (term y)))
    (m.table (Btwn i (term x) (term u) (term z)))
    (λ a b. (S.between x u z lx lu lz).1
    (R.ordered.row_9 (at x) (at y) (at u) (at z) (S.named x lx) (S.named y ly) (S.named u lu) (S.named z lz)
    ((S.between x y z lx ly lz).0 a) ((S.between x u y lx lu ly).0 b)))))

row_10_true : (m : Interpretation) (i n : ℕ) (at : ℕ → ℕ) (V : List ℕ) (M : HeapStructure) → IsModelOver V M
    → IsHomomorphism m i n at V M → (tuple : List Term) → IsTuple 4 n tuple → IsInstanceTrue m (name_of 10 i tuple)
row_10_true m i n at V M R S =
    of_4 n (λ tuple. IsInstanceTrue m (name_of 10 i tuple))
    (λ x y u z lx ly lu lz. Any-from_list_any (lit_truth m)
    (clause_of (name_of 10 i (term x ∷ term y ∷ term u ∷ term z ∷ [])))
    (from_two (m.table (Btwn i (term x) (term y) (term z))) (m.table (Btwn i (term x) (term u) (term y)))
    (m.table (Btwn i (term u) (term y) (term z)))
    (λ a b. (S.between u y z lu ly lz).1
    (R.ordered.row_10 (at x) (at y) (at u) (at z) (S.named x lx) (S.named y ly) (S.named u lu) (S.named z lz)
    ((S.between x y z lx ly lz).0 a) ((S.between x u y lx lu ly).0 b)))))

row_11_true : (m : Interpretation) (i n : ℕ) (at : ℕ → ℕ) (V : List ℕ) (M : HeapStructure) → IsModelOver V M
    → IsHomomorphism m i n at V M → (tuple : List Term) → IsTuple 2 n tuple → IsInstanceTrue m (name_of 11 i tuple)
row_11_true m i n at V M R S =
    of_2 n (λ tuple. IsInstanceTrue m (name_of 11 i tuple))
    (λ x y lx ly. Any-from_list_any (lit_truth m) (clause_of (name_of 11 i (term x ∷ term y ∷ [])))
    (from_one (m.table (Hop i (term x) (term y))) (m.table (Btwn i (term x) (term y) (term y)))
    (λ a. (S.between x y y lx ly ly).1
    (R.linked.row_11 (at x) (at y) (S.named x lx) (S.named y ly) ((S.hop x y lx ly).0 a)))))

row_12_true : (m : Interpretation) (i n : ℕ) (at : ℕ → ℕ) (V : List ℕ) (M : HeapStructure) → IsModelOver V M
    → IsHomomorphism m i n at V M → (tuple : List Term) → IsTuple 3 n tuple → IsInstanceTrue m (name_of 12 i tuple)
row_12_true m i n at V M R S =
    of_3 n (λ tuple. IsInstanceTrue m (name_of 12 i tuple))
    (λ x y z lx ly lz. Any-from_list_any (lit_truth m) (clause_of (name_of 12 i (term x ∷ term y ∷ term z ∷ [])))
    (one_of_two (m.table (Hop i (term x) (term y))) (m.table (Btwn i (term x) (term z) (term z)))
    (nat_eq (m.class (min z x)) (m.class (max z x))) (m.table (Btwn i (term x) (term y) (term z)))
    (λ a b. elim (R.linked.row_12 (at x) (at y) (at z) (S.named x lx) (S.named y ly) (S.named z lz)
    ((S.hop x y lx ly).0 a) ((S.between x z z lx lz lz).0 b)) [
      | inl c ↦ inl (equal_truth m z x ∙ (S.equal z x lz lx).1 c)
      | inr c ↦ inr ((S.between x y z lx ly lz).1 c)
    ])))

row_13_true : (m : Interpretation) (i n : ℕ) (at : ℕ → ℕ) (V : List ℕ) (M : HeapStructure) → IsModelOver V M
    → IsHomomorphism m i n at V M → (tuple : List Term) → IsTuple 2 n tuple → IsInstanceTrue m (name_of 13 i tuple)
row_13_true m i n at V M R S =
    of_2 n (λ tuple. IsInstanceTrue m (name_of 13 i tuple))
    (λ x y lx ly. Any-from_list_any (lit_truth m) (clause_of (name_of 13 i (term x ∷ term y ∷ [])))
    (thirteen (m.table (Alloc i (term x))) (m.table (Btwn i (term x) (term y) (term y)))
    (nat_eq (m.class (min x y)) (m.class (max x y)))
    (λ b. elim (R.linked.row_13 (at x) (at y) (S.named x lx) (S.named y ly) ((S.between x y y lx ly ly).0 b))
    [ inl c ↦ inl ((S.alloc x lx).1 c) | inr c ↦ inr (equal_truth m x y ∙ (S.equal x y lx ly).1 c) ])))

row_14_true : (m : Interpretation) (i n : ℕ) (at : ℕ → ℕ) (V : List ℕ) (M : HeapStructure) → IsModelOver V M
    → IsHomomorphism m i n at V M → (tuple : List Term) → IsTuple 2 n tuple → IsInstanceTrue m (name_of 14 i tuple)
row_14_true m i n at V M R S =
    of_2 n (λ tuple. IsInstanceTrue m (name_of 14 i tuple))
    (λ x y lx ly. Any-from_list_any (lit_truth m) (clause_of (name_of 14 i (term x ∷ term y ∷ [])))
    (from_two (m.table (Hop i (term x) (term x))) (m.table (Btwn i (term x) (term y) (term y)))
    (nat_eq (m.class (min y x)) (m.class (max y x)))
    (λ a b. (equal_truth m y x
    ∙ (S.equal y x ly lx).1 (R.linked.row_14 (at x) (at y) (S.named x lx) (S.named y ly) ((S.hop x x lx lx).0 a)
    ((S.between x y y lx ly ly).0 b))))))

row_15_true : (m : Interpretation) (i n : ℕ) (at : ℕ → ℕ) (V : List ℕ) (M : HeapStructure) → IsModelOver V M
    → IsHomomorphism m i n at V M → (tuple : List Term) → IsTuple 2 n tuple → IsInstanceTrue m (name_of 15 i tuple)
row_15_true m i n at V M R S =
    of_2 n (λ tuple. IsInstanceTrue m (name_of 15 i tuple))
    (λ x y lx ly. Any-from_list_any (lit_truth m) (clause_of (name_of 15 i (term x ∷ term y ∷ [])))
    (from_one (m.table (Hop i (term x) (term y))) (m.table (Alloc i (term x)))
    (λ a. (S.alloc x lx).1 (R.linked.row_15 (at x) (at y) (S.named x lx) (S.named y ly) ((S.hop x y lx ly).0 a)))))

-- the row at a place
abbrev nth : ℕ → AxiomRow
nth k = get_or table k (row 0 1 [])

-- the property of a row
abbrev RowTrue : Interpretation → ℕ → ℕ → AxiomRow → Type 0
RowTrue m n versions r = All (IsInstanceTrue m) (row_instances n versions r)

rows_true : (n versions : ℕ) (m : Interpretation) (at : ℕ → ℕ) (V : List ℕ) (M : ℕ → HeapStructure)
    → ((i : ℕ) → i < versions → IsModelOver V (M i) × IsHomomorphism m i n at V (M i))
    → All (RowTrue m n versions) table
rows_true n versions m at V M each =
    All-cons (RowTrue m n versions) (nth 0) (drop 1 table)
    (row_true m n versions (nth 0) (λ i l tuple is. row_1_true m i n at V (M i) (each i l).0 (each i l).1 tuple is))
    (
    All-cons (RowTrue m n versions) (nth 1) (drop 2 table)
    (row_true m n versions (nth 1) (λ i l tuple is. row_2_true m i n at V (M i) (each i l).0 (each i l).1 tuple is))
    (
    All-cons (RowTrue m n versions) (nth 2) (drop 3 table)
    (row_true m n versions (nth 2) (λ i l tuple is. row_3_true m i n at V (M i) (each i l).0 (each i l).1 tuple is))
    (
    All-cons (RowTrue m n versions) (nth 3) (drop 4 table)
    (row_true m n versions (nth 3) (λ i l tuple is. row_4_true m i n at V (M i) (each i l).0 (each i l).1 tuple is))
    (
    All-cons (RowTrue m n versions) (nth 4) (drop 5 table)
    (row_true m n versions (nth 4) (λ i l tuple is. row_5_true m i n at V (M i) (each i l).0 (each i l).1 tuple is))
    (
    All-cons (RowTrue m n versions) (nth 5) (drop 6 table)
    (row_true m n versions (nth 5) (λ i l tuple is. row_6_true m i n at V (M i) (each i l).0 (each i l).1 tuple is))
    (
    All-cons (RowTrue m n versions) (nth 6) (drop 7 table)
    (row_true m n versions (nth 6) (λ i l tuple is. row_7_true m i n at V (M i) (each i l).0 (each i l).1 tuple is))
    (
    All-cons (RowTrue m n versions) (nth 7) (drop 8 table)
    (row_true m n versions (nth 7) (λ i l tuple is. row_8_true m i n at V (M i) (each i l).0 (each i l).1 tuple is))
    (
    All-cons (RowTrue m n versions) (nth 8) (drop 9 table)
    (row_true m n versions (nth 8) (λ i l tuple is. row_9_true m i n at V (M i) (each i l).0 (each i l).1 tuple is))
    (
    All-cons (RowTrue m n versions) (nth 9) (drop 10 table)
    (row_true m n versions (nth 9)
    (λ i l tuple is. row_10_true m i n at V (M i) (each i l).0 (each i l).1 tuple is)) (
    All-cons (RowTrue m n versions) (nth 10) (drop 11 table)
    (row_true m n versions (nth 10)
    (λ i l tuple is. row_11_true m i n at V (M i) (each i l).0 (each i l).1 tuple is)) (
    All-cons (RowTrue m n versions) (nth 11) (drop 12 table)
    (row_true m n versions (nth 11)
    (λ i l tuple is. row_12_true m i n at V (M i) (each i l).0 (each i l).1 tuple is)) (
    All-cons (RowTrue m n versions) (nth 12) (drop 13 table)
    (row_true m n versions (nth 12)
    (λ i l tuple is. row_13_true m i n at V (M i) (each i l).0 (each i l).1 tuple is)) (
    All-cons (RowTrue m n versions) (nth 13) (drop 14 table)
    (row_true m n versions (nth 13)
    (λ i l tuple is. row_14_true m i n at V (M i) (each i l).0 (each i l).1 tuple is)) (
    All-cons (RowTrue m n versions) (nth 14) (drop 15 table)
    (row_true m n versions (nth 14)
    (λ i l tuple is. row_15_true m i n at V (M i) (each i l).0 (each i l).1 tuple is)) (
    All-nil (RowTrue m n versions))))))))))))))))

pub instances_hold : InstancesHold
instances_hold s m at V M each =
    all_joined (IsInstanceTrue m) (row_instances s.terms s.versions) table
    (rows_true s.terms s.versions m at V M each)

-- Formulas over terms and structures over values.
use Rattle.std.specs.Prelude.{◌≡◌, ◌≢◌, ◌⊎◌, ◌↔◌, ℕ, zero, suc, ◌+◌, ◌≤◌, ◌<◌, min, max, List, [], ◌∷◌, ◌++◌, map, Bool}
use Rattle.std.specs.Prelude.{true, false, not, ◌&&◌, ◌||◌, ◌==◌, nat_eq, IsTrue, MatchBool, Contains}
use Rattle.std.specs.List.{flat_map, range_with_len}
use Rattle.std.proofs.Common.{refl, sym, ◌∙◌, ap, subst, inl, inr, arith}
use Rattle.std.proofs.lemmas.Bool.{cases_order, cases_eq, eqb-true, eq-eqb, false≢true}
use Rattle.gh_base.specs.declared.atom.Term.{Term}
use Rattle.gh_base.specs.declared.atom.Atom.TheVariants.{Btwn, Alloc}
use Rattle.gh_base.specs.Meaning.{Interpretation}
use Rattle.gh_base.specs.Atoms.{term, terms_below}
use Rattle.gh_ast.specs.declared.Operand.{Operand}
use Rattle.gh_ast.specs.declared.Operand.TheVariants.{Null, Var}
use Rattle.gh_ast.specs.declared.Expr.{Expr}
use Rattle.gh_ast.specs.declared.Expr.TheVariants.{Plain, Read}
use Rattle.gh_ast.specs.Plain.{Cond, compare, negation, conjunction, disjunction, Conds, no_conds, cond_first}
use Rattle.gh_ast.specs.Plain.{Assertion, empty, comparison, points_to, cell, segment, star, cases, Assertions}
use Rattle.gh_ast.specs.Plain.{no_assertions, assertion_first}
use Rattle.gh_ast.specs.Programs.{Name}
use Rattle.gh_ast.specs.Names.{OperandIn, ExprIn, CondIn, CondsIn, AssertionIn, AssertionsIn}
use Rattle.gh_assert.specs.Meaning.{Store, value, plain_value, agrees, truth as store_truth, all_true as store_all}
use Rattle.gh_assert.specs.Meaning.{some_true as store_some}
use Rattle.gh_grass.specs.Claims.{GroundFormula, atom, equivalence_of, ground_formulas_of, equality}
use Rattle.gh_grass.specs.Footprints.{Variables, operand_term, plain_term, compared, tested, all_tested, footprint}
use Rattle.gh_grass.specs.Footprints.{footprints, members, apart_here, apart, all_apart, structure, structures}
use Rattle.gh_grass.specs.Truth.{truth, all_true, some_true, agree}
use Rattle.gh_model.specs.Structures.{HeapStructure, IsModelOver}
use Rattle.gh_model.specs.Representations.{IsInside, IsInsideAny, Fits, FitAll}
use Rattle.gh_model.specs.Versions.{equal_in}
use Rattle.gh_model.specs.Homomorphisms.{IsHomomorphism, HaveTerms, HasNext, AtCells, AtAllCells, FormulasArePreserved}
use Rattle.gh_model.proofs.heaps.Reachability.{hops_agree}
use Rattle.gh_model.proofs.reading.Classes.{same_test}

-- the smaller term first, or not
pub equal_truth : (m : Interpretation) (x y : ℕ) → truth m (equality (term x) (term y)) ≡ equal_in m x y
equal_truth m x y = elim (cases_order x y) [
  | inl same ↦
      let low : min x y ≡ x = omega arith in let high : max x y ≡ y = omega arith in
      ap (λ a. nat_eq (m.class a) (m.class (max x y))) low ∙ ap (λ a. nat_eq (m.class x) (m.class a)) high
  | inr other ↦ elim other [
    | inl l ↦
        let low : min x y ≡ x = omega arith in let high : max x y ≡ y = omega arith in
        ap (λ a. nat_eq (m.class a) (m.class (max x y))) low ∙ ap (λ a. nat_eq (m.class x) (m.class a)) high
    | inr l ↦
        let low : min x y ≡ y = omega arith in let high : max x y ≡ x = omega arith in
        ap (λ a. nat_eq (m.class a) (m.class (max x y))) low ∙ ap (λ a. nat_eq (m.class y) (m.class a)) high
        ∙ same_test (nat_eq (m.class y) (m.class x)) (nat_eq (m.class x) (m.class y))
        (λ e. eq-eqb (m.class x) (m.class y) (sym (eqb-true (m.class y) (m.class x) e)))
        (λ e. eq-eqb (m.class y) (m.class x) (sym (eqb-true (m.class x) (m.class y) e)))
  ]
]

-- what is said of terms and of values, by their equality
pub value_truth : (m : Interpretation) (i n : ℕ) (at : ℕ → ℕ) (V : List ℕ) (M : HeapStructure)
    → IsHomomorphism m i n at V M → (x y : ℕ) → x < n → y < n → truth m (equality (term x) (term y)) ≡ (at x == at y)
value_truth m i n at V M S x y lx ly =
    equal_truth m x y ∙ same_test (equal_in m x y) (at x == at y) (λ e. eq-eqb (at x) (at y) ((S.equal x y lx ly).0 e))
    (λ e. (S.equal x y lx ly).1 (eqb-true (at x) (at y) e))

operand_value : (m : Interpretation) (i n : ℕ) (at : ℕ → ℕ) (V : List ℕ) (M : HeapStructure)
    → IsHomomorphism m i n at V M → (b : Variables) (st : Store) (xs : List Name) → HaveTerms b n at st xs
    → (o : Operand) → OperandIn o xs → ((operand_term b o).0 < n) × (at (operand_term b o).0 ≡ value st o)
operand_value m i n at V M S b st xs T (Null p) c = (S.some, S.null)
operand_value m i n at V M S b st xs T (Var o) c = T o.name c

plain_term_value : (m : Interpretation) (i n : ℕ) (at : ℕ → ℕ) (V : List ℕ) (M : HeapStructure)
    → IsHomomorphism m i n at V M → (b : Variables) (st : Store) (xs : List Name) → HaveTerms b n at st xs → (e : Expr)
    → ExprIn e xs → ((plain_term b e).0 < n) × (at (plain_term b e).0 ≡ plain_value st e)
plain_term_value m i n at V M S b st xs T (Plain o) c = operand_value m i n at V M S b st xs T o c
plain_term_value m i n at V M S b st xs T (Read o) c = (S.some, S.null)

pub compared_truth : (m : Interpretation) (e : Bool) (x y : Term) (t : Bool) → truth m (equality x y) ≡ t
    → truth m (compared x e y) ≡ agrees e t
compared_truth m true x y t is = is
compared_truth m false x y t is = ap not is

mutual
  tested_truth : (m : Interpretation) (i n : ℕ) (at : ℕ → ℕ) (V : List ℕ) (M : HeapStructure)
      → IsHomomorphism m i n at V M → (b : Variables) (st : Store) (xs : List Name) → HaveTerms b n at st xs
      → (t : Cond) → CondIn t xs → truth m (tested b t) ≡ store_truth st t
  tested_truth m i n at V M S b st xs T (compare l e r) c =
      let x = plain_term_value m i n at V M S b st xs T l c.0 in
      let y = plain_term_value m i n at V M S b st xs T r c.1 in
      compared_truth m e (plain_term b l) (plain_term b r) (plain_value st l == plain_value st r)
      (value_truth m i n at V M S (plain_term b l).0 (plain_term b r).0 x.0 y.0
      ∙ ap (λ v. v == at (plain_term b r).0) x.1 ∙ ap (λ v. plain_value st l == v) y.1)
  tested_truth m i n at V M S b st xs T (negation t) c = ap not (tested_truth m i n at V M S b st xs T t c)
  tested_truth m i n at V M S b st xs T (conjunction ts) c = all_tested_truth m i n at V M S b st xs T ts c
  tested_truth m i n at V M S b st xs T (disjunction ts) c = some_tested_truth m i n at V M S b st xs T ts c

  all_tested_truth : (m : Interpretation) (i n : ℕ) (at : ℕ → ℕ) (V : List ℕ) (M : HeapStructure)
      → IsHomomorphism m i n at V M → (b : Variables) (st : Store) (xs : List Name) → HaveTerms b n at st xs
      → (ts : Conds) → CondsIn ts xs → all_true m (ground_formulas_of (all_tested b ts)) ≡ store_all st ts
  all_tested_truth m i n at V M S b st xs T no_conds c = refl
  all_tested_truth m i n at V M S b st xs T (cond_first t ts) c =
      ap (λ u. u && all_true m (ground_formulas_of (all_tested b ts))) (tested_truth m i n at V M S b st xs T t c.0)
      ∙ ap (λ u. store_truth st t && u) (all_tested_truth m i n at V M S b st xs T ts c.1)

  some_tested_truth : (m : Interpretation) (i n : ℕ) (at : ℕ → ℕ) (V : List ℕ) (M : HeapStructure)
      → IsHomomorphism m i n at V M → (b : Variables) (st : Store) (xs : List Name) → HaveTerms b n at st xs
      → (ts : Conds) → CondsIn ts xs → some_true m (ground_formulas_of (all_tested b ts)) ≡ store_some st ts
  some_tested_truth m i n at V M S b st xs T no_conds c = refl
  some_tested_truth m i n at V M S b st xs T (cond_first t ts) c =
      ap (λ u. u || some_true m (ground_formulas_of (all_tested b ts))) (tested_truth m i n at V M S b st xs T t c.0)
      ∙ ap (λ u. store_truth st t || u) (some_tested_truth m i n at V M S b st xs T ts c.1)

-- tests as facts
pub and_is : (a b : Bool) (A B : Type 0) → IsTrue a ↔ A → IsTrue b ↔ B → IsTrue (a && b) ↔ (A × B)
and_is true b A B f g = (λ e. (f.0 refl, g.0 e), λ c. g.1 c.1)
and_is false b A B f g = (λ e. absurd (false≢true e), λ c. f.1 c.0)

pub or_is : (a b : Bool) (A B : Type 0) → IsTrue a ↔ A → IsTrue b ↔ B → IsTrue (a || b) ↔ (A ⊎ B)
or_is true b A B f g = (λ e. inl (f.0 refl), λ c. refl)
or_is false b A B f g = (λ e. inr (g.0 e), λ c. elim c [ inl x ↦ absurd (false≢true (f.1 x)) | inr y ↦ g.1 y ])

pub not_is : (a : Bool) (A : Type 0) → IsTrue a ↔ A → IsTrue (not a) ↔ (A → ⊥)
not_is true A f = (λ e. absurd (false≢true e), λ n. absurd (n (f.0 refl)))
not_is false A f = (λ e x. false≢true (f.1 x), λ n. refl)

pub last_and : (a : Bool) (A : Type 0) → IsTrue a ↔ A → IsTrue (a && true) ↔ A
last_and true A f = f
last_and false A f = f

by_test_is : (t f g : Bool) (F G : Type 0) → IsTrue f ↔ F → IsTrue g ↔ G
    → IsTrue ((t && (f && true)) || ((not t && (g && true)) || false)) ↔ MatchBool t F G
by_test_is true f g F G p q =
    let r = or_is (f && true) (false || false) F ⊥ (last_and f F p) (λ e. absurd (false≢true e), λ n. absurd n) in
    (λ e. elim (r.0 e) [ inl x ↦ x | inr n ↦ absurd n ], λ x. r.1 (inl x))
by_test_is false f g F G p q =
    let r = or_is (g && true) false G ⊥ (last_and g G q) (λ e. absurd (false≢true e), λ n. absurd n) in
    (λ e. elim (r.0 e) [ inl x ↦ x | inr n ↦ absurd n ], λ x. r.1 (inl x))

-- by the test of cases
choice_is : (t u f g : Bool) (F G : Type 0) → t ≡ u → IsTrue f ↔ F → IsTrue g ↔ G
    → IsTrue ((t && (f && true)) || ((not t && (g && true)) || false)) ↔ MatchBool u F G
choice_is t u f g F G e p q =
    subst (λ w. IsTrue ((t && (f && true)) || ((not t && (g && true)) || false)) ↔ MatchBool w F G) e
    (by_test_is t f g F G p q)

pub none_is : IsTrue false ↔ ⊥
none_is = (λ e. false≢true e, λ n. absurd n)

-- a term that is a variable's, as values
place_is : (m : Interpretation) (i n : ℕ) (at : ℕ → ℕ) (V : List ℕ) (M : HeapStructure) → IsHomomorphism m i n at V M
    → (x z v : ℕ) → x < n → z < n → at x ≡ v → IsTrue (truth m (equality (term z) (term x))) ↔ (v ≡ at z)
place_is m i n at V M S x z v lx lz is =
    let same = equal_truth m z x in
    (λ e. sym is ∙ sym ((S.equal z x lz lx).0 (sym same ∙ e)), λ e. same ∙ (S.equal z x lz lx).1 (sym e ∙ sym is))

pub equal_is : (m : Interpretation) (i n : ℕ) (at : ℕ → ℕ) (V : List ℕ) (M : HeapStructure)
    → IsHomomorphism m i n at V M → (x y u v : ℕ) → x < n → y < n → at x ≡ u → at y ≡ v
    → IsTrue (truth m (equality (term x) (term y))) ↔ (u ≡ v)
equal_is m i n at V M S x y u v lx ly ux vy =
    let same = equal_truth m x y in
    (λ e. sym ux ∙ (S.equal x y lx ly).0 (sym same ∙ e) ∙ vy, λ e. same ∙ (S.equal x y lx ly).1 (ux ∙ e ∙ sym vy))

between_is : (m : Interpretation) (i n : ℕ) (at : ℕ → ℕ) (V : List ℕ) (M : HeapStructure) → IsHomomorphism m i n at V M
    → (x y z u v w : ℕ) → x < n → y < n → z < n → at x ≡ u → at y ≡ v → at z ≡ w
    → IsTrue (m.table (Btwn i (term x) (term y) (term z))) ↔ IsTrue (M.between u v w)
between_is m i n at V M S x y z u v w lx ly lz ux vy wz =
    subst (λ a. IsTrue (m.table (Btwn i (term x) (term y) (term z))) ↔ IsTrue (M.between a v w)) ux
    (subst (λ a. IsTrue (m.table (Btwn i (term x) (term y) (term z))) ↔ IsTrue (M.between (at x) a w)) vy
    (subst (λ a. IsTrue (m.table (Btwn i (term x) (term y) (term z))) ↔ IsTrue (M.between (at x) (at y) a)) wz
    (S.between x y z lx ly lz)))

mutual
  footprint_is : (m : Interpretation) (i n : ℕ) (at : ℕ → ℕ) (V : List ℕ) (M : HeapStructure)
      → IsHomomorphism m i n at V M → (b : Variables) (st : Store) (xs : List Name) → HaveTerms b n at st xs
      → (f : Assertion) → AssertionIn f xs → (z : ℕ) → z < n
      → IsTrue (truth m (footprint b i (term z) f)) ↔ IsInside f st M (at z)
  footprint_is m i n at V M S b st xs T empty c z lz = none_is
  footprint_is m i n at V M S b st xs T (comparison l e r) c z lz = none_is
  footprint_is m i n at V M S b st xs T (points_to x y) c z lz = let t = T x.name c.0 in
      place_is m i n at V M S (b x.name).0 z (st x.name) t.0 lz t.1
  footprint_is m i n at V M S b st xs T (cell x) c z lz = let t = T x.name c in
      place_is m i n at V M S (b x.name).0 z (st x.name) t.0 lz t.1
  footprint_is m i n at V M S b st xs T (segment x y) c z lz =
      let p = operand_value m i n at V M S b st xs T x c.0 in
      let q = operand_value m i n at V M S b st xs T y c.1 in
      let e = equality (term z) (operand_term b y) in
      let differ =
      not_is (truth m e) (at z ≡ value st y)
      (equal_is m i n at V M S z (operand_term b y).0 (at z) (value st y) lz q.0 refl q.1) in
      and_is (m.table (Btwn i (operand_term b x) (term z) (operand_term b y))) (not (truth m e) && true)
      (IsTrue (M.between (value st x) (at z) (value st y))) (at z ≢ value st y)
      (between_is m i n at V M S (operand_term b x).0 z (operand_term b y).0 (value st x) (at z) (value st y) p.0 lz q.0
      p.1 refl q.1)
      (last_and (not (truth m e)) (at z ≢ value st y) differ)
  footprint_is m i n at V M S b st xs T (star fs) c z lz = footprints_are m i n at V M S b st xs T fs c z lz
  footprint_is m i n at V M S b st xs T (cases t f g) c z lz =
      choice_is (truth m (tested b t)) (store_truth st t) (truth m (footprint b i (term z) f))
      (truth m (footprint b i (term z) g)) (IsInside f st M (at z)) (IsInside g st M (at z))
      (tested_truth m i n at V M S b st xs T t c.0) (footprint_is m i n at V M S b st xs T f c.1 z lz)
      (footprint_is m i n at V M S b st xs T g c.2 z lz)

  footprints_are : (m : Interpretation) (i n : ℕ) (at : ℕ → ℕ) (V : List ℕ) (M : HeapStructure)
      → IsHomomorphism m i n at V M → (b : Variables) (st : Store) (xs : List Name) → HaveTerms b n at st xs
      → (fs : Assertions) → AssertionsIn fs xs → (z : ℕ) → z < n
      → IsTrue (some_true m (ground_formulas_of (footprints b i (term z) fs))) ↔ IsInsideAny fs st M (at z)
  footprints_are m i n at V M S b st xs T no_assertions c z lz = none_is
  footprints_are m i n at V M S b st xs T (assertion_first f fs) c z lz =
      or_is (truth m (footprint b i (term z) f)) (some_true m (ground_formulas_of (footprints b i (term z) fs)))
      (IsInside f st M (at z)) (IsInsideAny fs st M (at z))
      (footprint_is m i n at V M S b st xs T f c.0 z lz) (footprints_are m i n at V M S b st xs T fs c.1 z lz)

-- all of some claims and of others
pub all_in_row : (m : Interpretation) (xs ys : List GroundFormula) (A B : Type 0)
    → IsTrue (all_true m (ground_formulas_of xs)) ↔ A → IsTrue (all_true m (ground_formulas_of ys)) ↔ B
    → IsTrue (all_true m (ground_formulas_of (xs ++ ys))) ↔ (A × B)
all_in_row m xs ys A B f g =
    subst (λ t. IsTrue t ↔ (A × B)) (sym (split xs))
    (and_is (all_true m (ground_formulas_of xs)) (all_true m (ground_formulas_of ys)) A B f g)
  where
    grouped : (a b c : Bool) → ((a && b) && c) ≡ (a && (b && c))
    grouped true b c = refl
    grouped false b c = refl

    split : (zs : List GroundFormula)
        → all_true m (ground_formulas_of (zs ++ ys))
        ≡ (all_true m (ground_formulas_of zs) && all_true m (ground_formulas_of ys))
    split [] = refl
    split (z ∷ zs) =
        ap (λ t. truth m z && t) (split zs)
        ∙ sym (grouped (truth m z) (all_true m (ground_formulas_of zs)) (all_true m (ground_formulas_of ys)))

-- a claim for each of n terms
each_is : (m : Interpretation) (P : Term → GroundFormula) (Q : ℕ → Type 0) (k n : ℕ)
    → ((z : ℕ) → k ≤ z → z < k + n → IsTrue (truth m (P (term z))) ↔ Q z)
    → IsTrue (all_true m (ground_formulas_of (map P (map term (range_with_len k n)))))
    ↔ ((z : ℕ) → k ≤ z → z < k + n → Q z)
each_is m P Q k zero f = (λ e z a b. absurd (omega arith), λ g. refl)
each_is m P Q k (suc n) f =
    let first = f k (omega arith) (omega arith) in
    let rest = each_is m P Q (k + 1) n (λ z a b. f z (omega arith) (omega arith)) in
    let both =
    and_is (truth m (P (term k))) (all_true m (ground_formulas_of (map P (map term (range_with_len (k + 1) n)))))
    (Q k) ((z : ℕ) → k + 1 ≤ z → z < k + 1 + n → Q z) first rest in (
      λ e z a b. elim (cases_eq k z)
          [ inl same ↦ subst Q same (both.0 e).0 | inr other ↦ (both.0 e).1 z (omega arith) (omega arith) ],
      λ g. both.1 (g k (omega arith) (omega arith), λ z a b. g z (omega arith) (omega arith)),
    )

pub each_term : (m : Interpretation) (P : Term → GroundFormula) (Q : ℕ → Type 0) (n : ℕ)
    → ((z : ℕ) → z < n → IsTrue (truth m (P (term z))) ↔ Q z)
    → IsTrue (all_true m (ground_formulas_of (map P (terms_below n)))) ↔ ((z : ℕ) → z < n → Q z)
each_term m P Q n f =
    let r = each_is m P Q 0 n (λ z a b. f z (omega arith)) in
    (λ e z l. r.0 e z (omega arith) (omega arith), λ g. r.1 (λ z a b. g z (omega arith)))

-- two members have no term in common
apart_is : (m : Interpretation) (i n : ℕ) (at : ℕ → ℕ) (V : List ℕ) (M : HeapStructure) → IsHomomorphism m i n at V M
    → (b : Variables) (st : Store) (xs : List Name) → HaveTerms b n at st xs → (f : Assertion) → AssertionIn f xs
    → (fs : Assertions) → AssertionsIn fs xs
    → IsTrue (all_true m (ground_formulas_of (flat_map (apart b i n f) (members fs))))
    ↔ ((z : ℕ) → z < n → IsInside f st M (at z) → IsInsideAny fs st M (at z) → ⊥)
apart_is m i n at V M S b st xs T f c no_assertions d = (λ e z l u v. v, λ g. refl)
apart_is m i n at V M S b st xs T f c (assertion_first g gs) d =
    let here = each_term m (apart_here b i f g) (λ z. (IsInside f st M (at z) × IsInside g st M (at z)) → ⊥) n (λ z l.
    not_is (truth m (footprint b i (term z) f) && (truth m (footprint b i (term z) g) && true))
    (IsInside f st M (at z) × IsInside g st M (at z))
    (and_is (truth m (footprint b i (term z) f)) (truth m (footprint b i (term z) g) && true) (IsInside f st M (at z))
    (IsInside g st M (at z)) (footprint_is m i n at V M S b st xs T f c z l)
    (last_and (truth m (footprint b i (term z) g)) (IsInside g st M (at z))
    (footprint_is m i n at V M S b st xs T g d.0 z l)))) in
    let rest = apart_is m i n at V M S b st xs T f c gs d.1 in
    let both =
    all_in_row m (apart b i n f g) (flat_map (apart b i n f) (members gs))
    ((z : ℕ) → z < n → (IsInside f st M (at z) × IsInside g st M (at z)) → ⊥)
    ((z : ℕ) → z < n → IsInside f st M (at z) → IsInsideAny gs st M (at z) → ⊥) here rest in (
      λ e z l u v. elim v [ inl w ↦ (both.0 e).0 z l (u, w) | inr w ↦ (both.0 e).1 z l u w ],
      λ h. both.1 (λ z l u. h z l u.0 (inl u.1), λ z l u w. h z l u (inr w)),
    )

-- terms below n, or values
pub over_values : (m : Interpretation) (i n : ℕ) (at : ℕ → ℕ) (V : List ℕ) (M : HeapStructure)
    → IsHomomorphism m i n at V M → (Q : ℕ → Type 0) → ((z : ℕ) → z < n → Q (at z)) ↔ ((v : ℕ) → Contains V v → Q v)
over_values m i n at V M S Q =
    (λ g v c. let t = S.made_for v c in subst Q t.2 (g t.0 t.1), λ g z l. g (at z) (S.named z l))

-- what the members of a star say one by one, and that they are apart
abbrev AllApart : Assertions → Store → HeapStructure → List ℕ → Type 0
AllApart no_assertions st M V = Unit {0}
AllApart (assertion_first f fs) st M V =
    ((v : ℕ) → Contains V v → IsInside f st M v → IsInsideAny fs st M v → ⊥) × AllApart fs st M V

abbrev EachFits : Assertions → Store → HeapStructure → List ℕ → Type 0
EachFits no_assertions st M V = Unit {0}
EachFits (assertion_first f fs) st M V = Fits f st M V × EachFits fs st M V

fit_all : (fs : Assertions) (st : Store) (M : HeapStructure) (V : List ℕ)
    → (EachFits fs st M V × AllApart fs st M V) ↔ FitAll fs st M V
fit_all no_assertions st M V = (λ u. tt, λ u. (tt, tt))
fit_all (assertion_first f fs) st M V =
    let rest = fit_all fs st M V in
    (λ u. (u.0.0, rest.0 (u.0.1, u.1.1), u.1.0), λ u. let r = rest.1 u.1 in ((u.0, r.0), (u.2, r.1)))

all_apart_is : (m : Interpretation) (i n : ℕ) (at : ℕ → ℕ) (V : List ℕ) (M : HeapStructure)
    → IsHomomorphism m i n at V M → (b : Variables) (st : Store) (xs : List Name) → HaveTerms b n at st xs
    → (fs : Assertions) → AssertionsIn fs xs
    → IsTrue (all_true m (ground_formulas_of (all_apart b i n (members fs)))) ↔ AllApart fs st M V
all_apart_is m i n at V M S b st xs T no_assertions c = (λ e. tt, λ u. refl)
all_apart_is m i n at V M S b st xs T (assertion_first f fs) c =
    let here = apart_is m i n at V M S b st xs T f c.0 fs c.1 in
    let there = over_values m i n at V M S (λ v. IsInside f st M v → IsInsideAny fs st M v → ⊥) in
    all_in_row m (flat_map (apart b i n f) (members fs)) (all_apart b i n (members fs))
    ((v : ℕ) → Contains V v → IsInside f st M v → IsInsideAny fs st M v → ⊥) (AllApart fs st M V)
    (λ e. there.0 (here.0 e), λ g. here.1 (there.1 g)) (all_apart_is m i n at V M S b st xs T fs c.1)

-- a cell with a content
content_is : (m : Interpretation) (i n : ℕ) (at : ℕ → ℕ) (V : List ℕ) (M : HeapStructure) → IsModelOver V M
    → IsHomomorphism m i n at V M → (x t y u v : ℕ) → x < n → t < n → y < n → at x ≡ u → at y ≡ v
    → (IsTrue (M.alloc (at x)) → IsTrue (M.hop (at x) (at t)))
    → IsTrue (m.table (Alloc i (term x)) && (truth m (equality (term t) (term y)) && true)) ↔ IsTrue (M.hop u v)
content_is m i n at V M model S x t y u v lx lt ly ux vy N =
    let both =
    and_is (m.table (Alloc i (term x))) (truth m (equality (term t) (term y)) && true) (IsTrue (M.alloc (at x)))
    (at t ≡ at y) (S.alloc x lx)
    (last_and (truth m (equality (term t) (term y))) (at t ≡ at y)
    (equal_is m i n at V M S t y (at t) (at y) lt ly refl refl)) in
    let one : IsTrue (m.table (Alloc i (term x)) && (truth m (equality (term t) (term y)) && true))
    ↔ IsTrue (M.hop (at x) (at y)) = (
      λ e. let c = both.0 e in subst (λ a. IsTrue (M.hop (at x) a)) c.1 (N c.0),
      λ h.
          let on' = model.linked.row_15 (at x) (at y) (S.named x lx) (S.named y ly) h in
          both.1 (
            on',
            hops_agree V M model (at x) (at t) (at y) (S.named x lx) (S.named t lt) (S.named y ly) (N on')
                h,
          ),
    ) in
    subst (λ a. IsTrue (m.table (Alloc i (term x)) && (truth m (equality (term t) (term y)) && true))
    ↔ IsTrue (M.hop a v)) ux
    (subst (λ a. IsTrue (m.table (Alloc i (term x)) && (truth m (equality (term t) (term y)) && true))
    ↔ IsTrue (M.hop (at x) a)) vy one)

mutual
  part_is : (m : Interpretation) (i n : ℕ) (at : ℕ → ℕ) (V : List ℕ) (M : HeapStructure) → IsModelOver V M
      → IsHomomorphism m i n at V M → (b : Variables) (next : Term → Term) (st : Store) (xs : List Name)
      → HaveTerms b n at st xs → (f : Assertion) → AssertionIn f xs → AtCells (HasNext b next n at M) f
      → IsTrue (truth m (structure b next i n f)) ↔ Fits f st M V
  part_is m i n at V M model S b next st xs T empty c N = (λ e. tt, λ u. refl)
  part_is m i n at V M model S b next st xs T (comparison l e r) c N =
      let p = operand_value m i n at V M S b st xs T l c.0 in
      let q = operand_value m i n at V M S b st xs T r c.1 in
      let is = compared_truth m e (operand_term b l) (operand_term b r) (value st l == value st r)
      (value_truth m i n at V M S (operand_term b l).0 (operand_term b r).0 p.0 q.0
      ∙ ap (λ v. v == at (operand_term b r).0) p.1 ∙ ap (λ v. value st l == v) q.1) in
      (λ a. sym is ∙ a, λ a. is ∙ a)
  part_is m i n at V M model S b next st xs T (points_to x y) c N =
      let p = T x.name c.0 in
      let q = operand_value m i n at V M S b st xs T y c.1 in
      content_is m i n at V M model S (b x.name).0 (next (b x.name)).0 (operand_term b y).0 (st x.name) (value st y) p.0
      N.0 q.0 p.1 q.1 N.1
  part_is m i n at V M model S b next st xs T (cell x) c N =
      let p = T x.name c in
      subst (λ a. IsTrue (m.table (Alloc i (b x.name))) ↔ IsTrue (M.alloc a)) p.1 (S.alloc (b x.name).0 p.0)
  part_is m i n at V M model S b next st xs T (segment x y) c N =
      let p = operand_value m i n at V M S b st xs T x c.0 in
      let q = operand_value m i n at V M S b st xs T y c.1 in
      between_is m i n at V M S (operand_term b x).0 (operand_term b y).0 (operand_term b y).0 (value st x) (value st y)
      (value st y) p.0 q.0 q.0 p.1 q.1 q.1
  part_is m i n at V M model S b next st xs T (star fs) c N =
      let both =
      all_in_row m (structures b next i n fs) (all_apart b i n (members fs)) (EachFits fs st M V)
      (AllApart fs st M V) (parts_are m i n at V M model S b next st xs T fs c N)
      (all_apart_is m i n at V M S b st xs T fs c) in
      let fit = fit_all fs st M V in
      (λ e. fit.0 (both.0 e), λ u. both.1 (fit.1 u))
  part_is m i n at V M model S b next st xs T (cases t f g) c N =
      choice_is (truth m (tested b t)) (store_truth st t) (truth m (structure b next i n f))
      (truth m (structure b next i n g)) (Fits f st M V) (Fits g st M V)
      (tested_truth m i n at V M S b st xs T t c.0) (part_is m i n at V M model S b next st xs T f c.1 N.0)
      (part_is m i n at V M model S b next st xs T g c.2 N.1)

  parts_are : (m : Interpretation) (i n : ℕ) (at : ℕ → ℕ) (V : List ℕ) (M : HeapStructure) → IsModelOver V M
      → IsHomomorphism m i n at V M → (b : Variables) (next : Term → Term) (st : Store) (xs : List Name)
      → HaveTerms b n at st xs → (fs : Assertions) → AssertionsIn fs xs → AtAllCells (HasNext b next n at M) fs
      → IsTrue (all_true m (ground_formulas_of (structures b next i n fs))) ↔ EachFits fs st M V
  parts_are m i n at V M model S b next st xs T no_assertions c N = (λ e. tt, λ u. refl)
  parts_are m i n at V M model S b next st xs T (assertion_first f fs) c N =
      and_is (truth m (structure b next i n f)) (all_true m (ground_formulas_of (structures b next i n fs)))
      (Fits f st M V) (EachFits fs st M V)
      (part_is m i n at V M model S b next st xs T f c.0 N.0) (parts_are m i n at V M model S b next st xs T fs c.1 N.1)

pub agree_is : (a b : Bool) (A B : Type 0) → IsTrue a ↔ A → IsTrue b ↔ B → IsTrue (agree a b) ↔ (A ↔ B)
agree_is true b A B f g = (λ e. (λ x. g.0 e, λ y. f.0 refl), λ h. g.1 (h.0 (f.0 refl)))
agree_is false true A B f g = (λ e. absurd (false≢true e), λ h. f.1 (h.1 (g.0 refl)))
agree_is false false A B f g = (λ e. (λ x. absurd (false≢true (f.1 x)), λ y. absurd (false≢true (g.1 y))), λ h. refl)

pub formulas_are_preserved : FormulasArePreserved
formulas_are_preserved m i n at V M b next st xs f model S c T N =
    let part = part_is m i n at V M model S b next st xs T f c N in
    let Q : ℕ → Type 0 = λ v. IsTrue (M.alloc v) ↔ IsInside f st M v in
    let each = each_term m (λ z. equivalence_of (atom (Alloc i z)) (footprint b i z f)) (λ z. Q (at z)) n (λ z l.
    agree_is (m.table (Alloc i (term z))) (truth m (footprint b i (term z) f)) (IsTrue (M.alloc (at z)))
    (IsInside f st M (at z)) (S.alloc z l) (footprint_is m i n at V M S b st xs T f c z l)) in
    let values = over_values m i n at V M S Q in
    record {
      footprint = footprint_is m i n at V M S b st xs T f c;
      part = part;
      whole =
          and_is (truth m (structure b next i n f))
          (all_true m (ground_formulas_of
          (map (λ z. equivalence_of (atom (Alloc i z)) (footprint b i z f)) (terms_below n)))) (Fits f st M V)
          ((v : ℕ) → Contains V v → Q v)
          part (λ e. values.0 (each.0 e), λ g. each.1 (values.1 g));
    }

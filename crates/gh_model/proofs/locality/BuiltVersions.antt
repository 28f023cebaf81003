-- What the formulas on versions say of an interpretation's built heaps.
use Rattle.std.specs.Prelude.{◌≡◌, ◌≢◌, ◌⊎◌, ◌↔◌, ℕ, zero, suc, ◌+◌, ◌-◌, ◌≤◌, ◌<◌, List, [], ◌∷◌, ◌++◌, length, map}
use Rattle.std.specs.Prelude.{slice_get, unwrap_or, Some, None, Bool, true, false, not, cond, ◌||◌, ◌&&◌, ◌==◌, IsTrue}
use Rattle.std.specs.Prelude.{Contains}
use Rattle.std.specs.List.{flat_map, range_with_len}
use Rattle.std.specs.FinMap.{get, insert}
use Rattle.std.proofs.Common.{refl, sym, ◌∙◌, ap, subst, inl, inr, arith}
use Rattle.std.proofs.lemmas.Bool.{cases_eq, cases_Bool, eqb-true, eq-eqb, false≢true}
use Rattle.std.proofs.lemmas.List.{length-map}
use Rattle.std.proofs.lemmas.List.Elements.{All-nil, All-cons, All-head, All-tail}
use Rattle.gh_base.specs.declared.atom.Term.{Term}
use Rattle.gh_base.specs.declared.atom.Atom.TheVariants.{Hop, Alloc}
use Rattle.gh_base.specs.Meaning.{Interpretation}
use Rattle.gh_base.specs.Atoms.{term}
use Rattle.gh_ast.specs.declared.Occ.{Occ}
use Rattle.gh_ast.specs.Plain.{Assertion, Procedure, Program}
use Rattle.gh_ast.specs.Programs.{Name, names}
use Rattle.gh_ast.specs.Names.{AssertionIn}
use Rattle.gh_ast.specs.Occurrences.{in_assertion}
use Rattle.gh_ast.proofs.Sites.{member_map, occurrence_of, formula_in}
use Rattle.gh_assert.specs.Meaning.{Store, Meaning, HasPart}
use Rattle.gh_assert.proofs.Cells.{by_look_ups, get_put, get_beside, get_nothing, allocated_or}
use Rattle.gh_assert.proofs.Unions.{part_splits, split_part, without}
use Rattle.gh_path.specs.Graphs.{meets_at}
use Rattle.gh_path.specs.Conditions.{Condition}
use Rattle.gh_path.specs.Terms.{Kind, null, next, Bindings, Terms, walked, steps_walked, no_terms}
use Rattle.gh_grass.specs.Claims.{GroundFormula, negation_of, ground_formulas_of, one_of, equality}
use Rattle.gh_grass.specs.Truth.{truth, some_true, AreTrue}
use Rattle.gh_grass.proofs.LawLemmas.{clauses_mean_formulas}
use Rattle.gh_symb.specs.Symbolic.{under, Symbolic, begins, symbolic_of}
use Rattle.gh_symb.specs.Formulas.{allocated, variables, successor, hops, leads, each, succeeds, successor_formulas}
use Rattle.gh_symb.specs.Formulas.{successors_from, version_formulas, versions_formulas, meets, meets_whole}
use Rattle.gh_symb.specs.Formulas.{steps_formulas, check_formulas, condition_formulas, problem}
use Rattle.gh_model.specs.Structures.{HeapStructure, IsModelOver}
use Rattle.gh_model.specs.BuiltHeaps.{first, built}
use Rattle.gh_model.specs.Representations.{AgreeOn}
use Rattle.gh_model.specs.Classes.{numbers, class_of, classes, HasClasses}
use Rattle.gh_model.specs.Versions.{equal_in, version_of, HasHops}
use Rattle.gh_model.specs.Homomorphisms.{IsHomomorphism, HaveTerms, HasNext, AtCells, IsPreserved}
use Rattle.gh_model.specs.BuiltTraces.{value_under, store_under, stands_at, content_at, cells_below, heap_in}
use Rattle.gh_model.specs.Abstraction.{IsModelOf}
use Rattle.gh_model.proofs.terms.Extension.{Within, stays, walked_grows}
use Rattle.gh_model.proofs.terms.Denotation.{Sound, listed, formula_named}
use Rattle.gh_model.proofs.terms.Callees.{HasSuccessors, Knows}
use Rattle.gh_model.proofs.heaps.BuiltHeap.{models_are_built, contents_are_hops}
use Rattle.gh_model.proofs.heaps.HeapSteps.{next_is_successor}
use Rattle.gh_model.proofs.heaps.Agreement.{assertions_agree}
use Rattle.gh_model.proofs.heaps.Cells.{first_passes}
use Rattle.gh_model.proofs.reading.Classes.{numbered, below}
use Rattle.gh_model.proofs.reading.AxiomRows.{versions_are_models}
use Rattle.gh_model.proofs.reading.Assertions.{equal_is, formulas_are_preserved}
use Rattle.gh_model.proofs.soundness.Interpretation.{value_at, value_of, there_at, within_list, found_in, formula_known}
use Rattle.gh_model.proofs.soundness.Interpretation.{cells_known}
use Rattle.gh_model.proofs.ownership.Traces.{check_within, steps_within}
use Rattle.gh_model.proofs.terms.Bounds.{IsBounded, place_below, still_below}

abbrev pub T : Interpretation → GroundFormula → Type 0
T m g = truth m g ≡ true

-- all of a list, by its parts
pub all_front : (m : Interpretation) (xs ys : List GroundFormula) → AreTrue m (xs ++ ys) → AreTrue m xs
all_front m [] ys A = All-nil (T m)
all_front m (x ∷ xs) ys A =
    All-cons (T m) x xs (All-head (T m) x (xs ++ ys) A) (all_front m xs ys (All-tail (T m) x (xs ++ ys) A))

pub all_back : (m : Interpretation) (xs ys : List GroundFormula) → AreTrue m (xs ++ ys) → AreTrue m ys
all_back m [] ys A = A
all_back m (x ∷ xs) ys A = all_back m xs ys (All-tail (T m) x (xs ++ ys) A)

flat_at : (m : Interpretation) (f : ℕ → List GroundFormula) (k n i : ℕ) → AreTrue m (flat_map f (range_with_len k n))
    → k ≤ i → i < k + n → AreTrue m (f i)
flat_at m f k zero i A a b = absurd (omega arith)
flat_at m f k (suc n) i A a b = elim (cases_eq k i) [
  | inl same ↦ subst (λ j. AreTrue m (f j)) same (all_front m (f k) (flat_map f (range_with_len (k + 1) n)) A)
  | inr other ↦ flat_at m f (k + 1) n i (all_back m (f k) (flat_map f (range_with_len (k + 1) n)) A) (omega arith)
      (omega arith)
]

each_at : (m : Interpretation) (f : Term → GroundFormula) (k n z : ℕ)
    → AreTrue m (map f (map term (range_with_len k n))) → k ≤ z → z < k + n → T m (f (term z))
each_at m f k zero z A a b = absurd (omega arith)
each_at m f k (suc n) z A a b = elim (cases_eq k z) [
  | inl same ↦ subst (λ j. T m (f (term j))) same
      (All-head (T m) (f (term k)) (map f (map term (range_with_len (k + 1) n))) A)
  | inr other ↦ each_at m f (k + 1) n z (All-tail (T m) (f (term k)) (map f (map term (range_with_len (k + 1) n))) A)
      (omega arith) (omega arith)
]

pub either : (a b : Bool) → (a || b) ≡ true → (a ≡ true) ⊎ (b ≡ true)
either true b e = inl refl
either false b e = inr e

pub implies : (a b : Bool) → (not a || b) ≡ true → a ≡ true → b ≡ true
implies true b e f = e
implies false b e f = absurd (false≢true f)

pub alone : (a : Bool) → (a || false) ≡ true → a ≡ true
alone true e = refl
alone false e = e

pub no_more : (a : Bool) → not a ≡ true → a ≡ true → ⊥
no_more true e f = false≢true e
no_more false e f = false≢true f

some_at : (m : Interpretation) (f : Term → GroundFormula) (k n : ℕ)
    → some_true m (ground_formulas_of (map f (map term (range_with_len k n)))) ≡ true
    → (z : ℕ) × (z < k + n) × T m (f (term z))
some_at m f k zero e = absurd (false≢true e)
some_at m f k (suc n) e =
    elim (either (truth m (f (term k))) (some_true m (ground_formulas_of (map f (map term (range_with_len (k + 1) n)))))
    e) [
      | inl here ↦ (k, omega arith, here)
      | inr later ↦ let r = some_at m f (k + 1) n later in (r.0, omega (arith, r.1), r.2)
    ]

pub has_hops : (m : Interpretation) (K : List Kind) (i : ℕ) → AreTrue m (version_formulas K i)
    → HasHops (length K) (version_of m i)
has_hops m K i A =
    let n = length K in
    let front = all_front m (_ ∷ each n (leads n i)) (successors_from i 0 K) A in
    record {
      null = λ a. no_more (m.table (Alloc i (term 0))) (All-head (T m) _ (each n (leads n i)) front) a;
      hops = λ x lx a.
          let said =
          each_at m (leads n i) 0 n x (All-tail (T m) _ (each n (leads n i)) front) (omega arith)
          (omega (arith, lx)) in
          let v =
          some_at m (hops i (term x)) 0 n
          (implies (m.table (Alloc i (term x))) (some_true m (ground_formulas_of (each n (hops i (term x))))) said
          a) in
          (v.0, omega (arith, v.1), v.2);
    }

successors_at : (m : Interpretation) (i t : ℕ) (ks : List Kind) → AreTrue m (successors_from i t ks) → (j u : ℕ)
    → slice_get ks j ≡ Some (next i u) → AreTrue m (succeeds i u (t + j))
successors_at m i t [] A j u e = absurd cc
successors_at m i t (k ∷ ks) A zero u e =
    let same : k ≡ next i u = cc in
    let here =
    subst (λ l. AreTrue m (successor_formulas i t l)) same
    (all_front m (successor_formulas i t k) (successors_from i (t + 1) ks) A) in
    let at : t ≡ t + 0 = omega arith in
    subst (λ s. AreTrue m (succeeds i u s)) at
    (subst (λ b. AreTrue m (cond b (succeeds i u t) [])) (eq-eqb i i refl) here)
successors_at m i t (k ∷ ks) A (suc j) u e =
    let at : t + 1 + j ≡ t + suc j = omega arith in
    subst (λ s. AreTrue m (succeeds i u s)) at
    (successors_at m i (t + 1) ks (all_back m (successor_formulas i t k) (successors_from i (t + 1) ks) A) j u e)

-- the classes, listed by term
pub count_numbers : (k n : ℕ) → length (numbers k n) ≡ n
count_numbers k zero = refl
count_numbers k (suc n) = ap (λ a. suc a) (count_numbers (suc k) n)

pub class_at : (f : ℕ → ℕ) (k n t : ℕ) → t < n → slice_get (map f (numbers k n)) t ≡ Some (f (k + t))
class_at f k zero t l = absurd (omega arith)
class_at f k (suc n) zero l = let at : k ≡ k + 0 = omega arith in ap (λ u. Some (f u)) at
class_at f k (suc n) (suc t) l = let at : suc k + t ≡ k + suc t = omega arith in
    class_at f (suc k) n t (omega (arith, l)) ∙ ap (λ u. Some (f u)) at

-- all that is known of N versions over the values V of the terms
pub record AreGround (m : Interpretation) (K : List Kind) (V : List ℕ) (at : ℕ → ℕ) (N : ℕ) : Type 0 where
  pub count : length V ≡ length K
  pub null : slice_get V 0 ≡ Some 0
  pub listed : (t : ℕ) → t < length K → slice_get V t ≡ Some (at t)
  pub model : (i : ℕ) → i < N → IsModelOver V (version_of m i)
  pub homomorphism : (i : ℕ) → i < N → IsHomomorphism m i (length K) (value_at V) V (version_of m i)
  pub next : (i : ℕ) → i < N → HasSuccessors K V i (built V (version_of m i))
  pub heap : (i : ℕ) → i < N → heap_in m (length K) i ≡ built V (version_of m i)

pub classes_homomorphism : (m : Interpretation) (i n : ℕ) (V : List ℕ) → 0 < n → V ≡ classes (equal_in m) n
    → length V ≡ n → slice_get V 0 ≡ Some 0 → ((t : ℕ) → t < n → slice_get V t ≡ Some (class_of (equal_in m) n t))
    → HasClasses (equal_in m) n (version_of m i) → IsHomomorphism m i n (value_at V) V (version_of m i)
classes_homomorphism m i n V some is count first at C =
    let v : (t : ℕ) → t < n → class_of (equal_in m) n t ≡ value_at V t =
    λ t l. sym (value_of V t (class_of (equal_in m) n t) (at t l)) in
    let M = version_of m i in
    record {
      some = some;
      null = value_of V 0 0 first;
      named = λ t l. listed V t (value_at V t) (there_at V t (omega (arith, l, count)));
      made_for = λ u c. let f = found_in V u c in
          (f.0, omega (arith, within_list V f.0 u f.1, count), value_of V f.0 u f.1);
      equal = λ x y lx ly. (
        λ e. sym (v x lx) ∙ (C.agrees x y lx ly).0 e ∙ v y ly,
        λ e. (C.agrees x y lx ly).1 (v x lx ∙ e ∙ sym (v y ly)),
      );
      alloc = λ x lx. subst (λ a. IsTrue (M.alloc x) ↔ IsTrue (M.alloc a)) (v x lx) (C.alloc x lx);
      hop = λ x w lx lw. subst (λ a. IsTrue (M.hop x w) ↔ IsTrue (M.hop a (value_at V w))) (v x lx)
          (subst (λ b. IsTrue (M.hop x w) ↔ IsTrue (M.hop (class_of (equal_in m) n x) b)) (v w lw) (C.hop x w lx lw));
      between = λ x y z lx ly lz.
          subst (λ a. IsTrue (M.between x y z) ↔ IsTrue (M.between a (value_at V y) (value_at V z))) (v x lx)
          (subst (λ b. IsTrue (M.between x y z) ↔ IsTrue (M.between (class_of (equal_in m) n x) b (value_at V z)))
          (v y ly)
          (subst (λ c. IsTrue (M.between x y z)
          ↔ IsTrue (M.between (class_of (equal_in m) n x) (class_of (equal_in m) n y) c)) (v z lz)
          (C.between x y z lx ly lz)));
    }

-- a term for what follows another has the value that follows
pub follows_from_claims : (m : Interpretation) (K : List Kind) (V : List ℕ) (i : ℕ) → length V ≡ length K
    → IsModelOver V (version_of m i) → IsHomomorphism m i (length K) (value_at V) V (version_of m i)
    → AreTrue m (successors_from i 0 K) → HasSuccessors K V i (built V (version_of m i))
follows_from_claims m K V i count model S A t u v e a =
    let M = version_of m i in
    let n = length K in
    let lt : t < n = place_below K t (next i u) e in
    let lu : u < n = omega (arith, within_list V u v a, count) in
    let uv : value_at V u ≡ v = value_of V u v a in
    let zero' : 0 + t ≡ t = omega arith in
    let said = subst (λ s. AreTrue m (succeeds i u s)) zero' (successors_at m i 0 K A t u e) in
    let c1 = one_of (negation_of (allocated i (term u)) ∷ hops i (term u) (term t) ∷ []) in
    let c2 = one_of (allocated i (term u) ∷ equality (term u) (term t) ∷ []) in
    let first : T m c1 = All-head (T m) c1 (c2 ∷ []) said in
    let second : T m c2 = All-head (T m) c2 [] (All-tail (T m) c1 (c2 ∷ []) said) in
    let a1 : IsTrue (m.table (Alloc i (term u))) → IsTrue (m.table (Hop i (term u) (term t))) =
    λ b. alone (m.table (Hop i (term u) (term t)))
    (implies (m.table (Alloc i (term u))) (m.table (Hop i (term u) (term t)) || false) first b) in
    let hop : IsTrue (M.alloc v) → IsTrue (M.hop v (value_at V t)) = λ b.
    subst (λ w. IsTrue (M.hop w (value_at V t))) uv
    ((S.hop u t lu lt).0 (a1 ((S.alloc u lu).1 (subst (λ w. IsTrue (M.alloc w)) (sym uv) b)))) in
    let or' : IsTrue (M.alloc v) ⊎ (v ≡ value_at V t) =
    elim (either (m.table (Alloc i (term u))) (truth m (equality (term u) (term t)) || false) second) [
      | inl b ↦ inl (subst (λ w. IsTrue (M.alloc w)) uv ((S.alloc u lu).0 b))
      | inr b ↦ inr ((equal_is m i n (value_at V) V M S u t v (value_at V t) lu lt uv refl).0
          (alone (truth m (equality (term u) (term t))) b))
    ] in
    there_at V t (omega (arith, lt, count))
    ∙ ap Some (sym (next_is_successor V M model v (value_at V t) (listed V u v a) (S.named t lt) hop or'))

pub all_claims : (P : Program) (proc : Procedure) (c : Condition) (m : Interpretation) → IsModelOf P proc c m
    → AreTrue m (condition_formulas (symbolic_of P proc c))
all_claims P proc c m I = clauses_mean_formulas m (condition_formulas (symbolic_of P proc c)) 0 I.clauses

-- the heap of a state is the built heap
cells_at : (stands : ℕ → Bool) (to : ℕ → ℕ) (n q : ℕ) → q < n → stands q ≡ true
    → get (cells_below stands to n) q ≡ Some (to q)
cells_at stands to zero q l e = absurd (omega arith)
cells_at stands to (suc k) q l e = elim (cases_eq q k) [
  | inl same ↦
      let on : stands k ≡ true = ap stands (sym same) ∙ e in
      ap (λ b. get (cond b (insert (cells_below stands to k) k (to k)) (cells_below stands to k)) q) on
      ∙ ap (get (insert (cells_below stands to k) k (to k))) same ∙ get_put (cells_below stands to k) k (to k)
      ∙ ap (λ x. Some (to x)) (sym same)
  | inr away ↦
      let later = cells_at stands to k q (omega arith) e in
      elim (cases_Bool (stands k)) [
        | inl on ↦ ap (λ b. get (cond b (insert (cells_below stands to k) k (to k)) (cells_below stands to k)) q) on
            ∙ get_beside (cells_below stands to k) k (to k) q away ∙ later
        | inr off ↦ ap (λ b. get (cond b (insert (cells_below stands to k) k (to k)) (cells_below stands to k)) q) off
            ∙ later
      ]
]

pub cells_not : (stands : ℕ → Bool) (to : ℕ → ℕ) (n q : ℕ) → (q < n → stands q ≡ true → ⊥)
    → get (cells_below stands to n) q ≡ None
cells_not stands to zero q out = get_nothing q
cells_not stands to (suc k) q out =
    let earlier = cells_not stands to k q (λ l e. out (omega (arith, l)) e) in
    elim (cases_Bool (stands k)) [
      | inl on ↦
          let away : q ≢ k = λ same. out (omega (arith, same)) (ap stands same ∙ on) in
          ap (λ b. get (cond b (insert (cells_below stands to k) k (to k)) (cells_below stands to k)) q) on
          ∙ get_beside (cells_below stands to k) k (to k) q away ∙ earlier
      | inr off ↦ ap (λ b. get (cond b (insert (cells_below stands to k) k (to k)) (cells_below stands to k)) q) off
          ∙ earlier
    ]

three_true : (a b c : Bool) → a ≡ true → b ≡ true → c ≡ true → (a && (b && c)) ≡ true
three_true true true c e f g = g
three_true true false c e f g = absurd (false≢true f)
three_true false b c e f g = absurd (false≢true e)

parts_of : (a b c : Bool) → (a && (b && c)) ≡ true → (b ≡ true) × (c ≡ true)
parts_of true true c e = (refl, e)
parts_of true false c e = absurd (false≢true e)
parts_of false b c e = absurd (false≢true e)

pub heap_is : (m : Interpretation) (n i : ℕ) → HasClasses (equal_in m) n (version_of m i)
    → heap_in m n i ≡ built (classes (equal_in m) n) (version_of m i)
heap_is m n i C = by_look_ups (heap_in m n i) (built V M) (λ q. elim (allocated_or (built V M) q) [
  | inl (v, e) ↦ let r = there q v e in here q r.0 r.1
  | inr none ↦ cells_not (stands_at m n i) (content_at m n i) n q
      (λ l e. let some = here q l e in let full = cells_at (stands_at m n i) (content_at m n i) n q l e in
      let both : Some (content_at m n i q) ≡ None = sym full ∙ some ∙ none in absurd cc) ∙ sym none
])
  where
    V : List ℕ
    V = classes (equal_in m) n

    M : HeapStructure
    M = version_of m i

    there : (q v : ℕ) → get (built V M) q ≡ Some v → (q < n) × (stands_at m n i q ≡ true)
    there q v e =
        let c = (contents_are_hops V M C.model q v).0 e in
        let own = C.own q c.0 in
        let alloc : M.alloc q ≡ true = C.model.linked.row_15 q v c.0 c.1 c.2 in
        let some : not (q == 0) ≡ true = elim (cases_Bool (q == 0)) [
          | inl zero' ↦ absurd (C.model.linked.null (ap M.alloc (sym (eqb-true q 0 zero')) ∙ alloc))
          | inr off ↦ ap not off
        ] in (
          own.0,
          three_true (not (q == 0)) (class_of (equal_in m) n q == q) (M.alloc q) some
              (eq-eqb (class_of (equal_in m) n q) q own.1) alloc,
        )

    here : (q : ℕ) → q < n → stands_at m n i q ≡ true → get (heap_in m n i) q ≡ get (built V M) q
    here q l e =
        let both = parts_of (not (q == 0)) (class_of (equal_in m) n q == q) (M.alloc q) e in
        let own : class_of (equal_in m) n q ≡ q = eqb-true (class_of (equal_in m) n q) q both.0 in
        let named : Contains V q = subst (Contains V) own (C.named q l) in
        let v = C.model.linked.hops q named both.1 in
        let lv = (C.own v.0 v.1).0 in
        let f = first_passes (M.hop q) (numbers 0 n) v.0 (numbered 0 n v.0 (omega arith) (omega (arith, lv))) v.2 in
        let w = first (M.hop q) (numbers 0 n) in
        let lw : w < n = omega (arith, below 0 n w f.0) in
        let hop : IsTrue (M.hop q (class_of (equal_in m) n w)) =
        subst (λ x. IsTrue (M.hop x (class_of (equal_in m) n w))) own ((C.hop q w l lw).0 f.1) in
        cells_at (stands_at m n i) (content_at m n i) n q l e
        ∙ sym ((contents_are_hops V M C.model q (class_of (equal_in m) n w)).1 (named, C.named w lw, hop))

-- the formulas of a condition, by part
pub record PartsTrue (s : Symbolic) (m : Interpretation) : Type 0 where
  pub versions : AreTrue m (versions_formulas s.terms s.versions)
  pub start : T m (meets_whole s.terms s.start)
  pub steps : AreTrue m (steps_formulas s.terms 0 s.steps)
  pub check : AreTrue m (check_formulas s.terms (s.versions - 1) s.check)

pub parts_true : (s : Symbolic) (m : Interpretation) → AreTrue m (condition_formulas s) → PartsTrue s m
parts_true s m A =
    let a = versions_formulas s.terms s.versions in
    let b = meets_whole s.terms s.start in
    let c = steps_formulas s.terms 0 s.steps in
    let d = check_formulas s.terms (s.versions - 1) s.check in
    let three = all_front m (a ++ b ∷ [] ++ c) d A in
    let two = all_front m (a ++ b ∷ []) c three in
    record {
      versions = all_front m a (b ∷ []) two;
      start = All-head (T m) b [] (all_back m a (b ∷ []) two);
      steps = all_back m (a ++ b ∷ []) c three;
      check = all_back m (a ++ b ∷ [] ++ c) d A;
    }

pub ground : (P : Program) (proc : Procedure) (c : Condition) (m : Interpretation) → IsModelOf P proc c m
    → AreGround m (symbolic_of P proc c).terms (classes (equal_in m) (length (symbolic_of P proc c).terms))
    (class_of (equal_in m) (length (symbolic_of P proc c).terms)) (symbolic_of P proc c).versions
ground P proc c m I =
    let K = (symbolic_of P proc c).terms in
    let n = length K in
    let N = (symbolic_of P proc c).versions in
    let E = equal_in m in
    let V : List ℕ = classes E n in
    let s = begins proc c.start in
    let first : slice_get K 0 ≡ Some null =
    check_within P proc c.way.check (steps_walked P proc c.way.steps s) 0 null
    (steps_within P proc c.way.steps s 0 null
    ((walked_grows (meets_at proc c.start) no_terms).kinds 0 null refl)) in
    let some : 0 < n = place_below K 0 null first in
    let count : length V ≡ n = length-map (numbers 0 n) (class_of E n) ∙ count_numbers 0 n in
    let said : (i : ℕ) → i < N → AreTrue m (version_formulas K i) =
    λ i l. flat_at m (version_formulas K) 0 N i
    (parts_true (symbolic_of P proc c) m (all_claims P proc c m I)).versions (omega arith) (omega (arith, l)) in
    let C : (i : ℕ) → i < N → HasClasses E n (version_of m i) =
    λ i l. versions_are_models (problem (symbolic_of P proc c)).sizes m i l some I.congruence I.instances
    (has_hops m K i (said i l)) in
    let listed' : (t : ℕ) → t < n → slice_get V t ≡ Some (class_of E n t) =
    λ t l. let zero' : 0 + t ≡ t = omega arith in
    class_at (class_of E n) 0 n t l ∙ ap (λ u. Some (class_of E n u)) zero' in
    let version : 0 < N = omega arith in
    let null' : slice_get V 0 ≡ Some 0 = listed' 0 some ∙ ap Some (C 0 version).null in
    let S : (i : ℕ) → i < N → IsHomomorphism m i n (value_at V) V (version_of m i) =
    λ i l. classes_homomorphism m i n V some refl count null' listed' (C i l) in
    record {
      count = count;
      null = null';
      listed = listed';
      model = λ i l. (C i l).model;
      homomorphism = S;
      next = λ i l. follows_from_claims m K V i count (C i l).model (S i l)
          (all_back m (negation_of (allocated i (term 0)) ∷ each n (leads n i)) (successors_from i 0 K) (said i l));
      heap = λ i l. heap_is m n i (C i l);
    }

pub value_is : (at : ℕ → ℕ) (b : Bindings) (y : Name) (u : ℕ) → b y ≡ Some u → store_under at b y ≡ at u
value_is at b y u e = ap (value_under at) e

-- the terms of a walk in a state
pub state_sound : (m : Interpretation) (K : List Kind) (V : List ℕ) (at : ℕ → ℕ) (N : ℕ) → AreGround m K V at N
    → (i : ℕ) → i < N → (b : Bindings) (t : Terms) → t.version ≡ i → Within t.kinds K → IsBounded t
    → ((y : Name) (u : ℕ) → t.bindings y ≡ Some u → b y ≡ Some u)
    → Sound K V (store_under at b) (built V (version_of m i)) t
state_sound m K V at N G i l b t version w B own = record {
  null = G.null;
  kinds = w;
  next = λ j u v e. G.next i l j u v (e ∙ ap (λ k. Some (next k u)) version);
  bound =
      λ y u e. G.listed u (still_below t.kinds K u w (B.below y u e)) ∙ ap Some (sym (value_is at b y u (own y u e)));
}

-- the formulas of an assertion that is walked
pub preserved : (m : Interpretation) (K : List Kind) (V : List ℕ) (at : ℕ → ℕ) (N : ℕ) → AreGround m K V at N
    → (st : Store) (f : Assertion) (s : Terms) → s.version < N
    → Sound K V st (built V (version_of m s.version)) (walked f s)
    → IsPreserved m s.version (length K) (value_at V) V (version_of m s.version) (variables (walked f s).bindings)
    (successor K s.version) st f
preserved m K V at N G st f s l S =
    let i = s.version in
    let n = length K in
    let M = version_of m i in
    let t = walked f s in
    let version : t.version ≡ i = (walked_grows f s).version in
    let B = models_are_built V M (G.model i l) in
    let xs = names (in_assertion f) in
    let names_in : AssertionIn f xs = formula_in f xs (λ o c. member_map (λ (q : Occ). q.name) (in_assertion f) o c) in
    let terms_have : HaveTerms (variables t.bindings) n (value_at V) st xs = λ x c.
    (let o = occurrence_of (in_assertion f) x c in
    let k : Knows t.bindings x = subst (λ y. Knows t.bindings y) o.2 (formula_known f s o.0 o.1) in
    let value = S.bound x k.0 k.1 in
    let is : unwrap_or (t.bindings x) 0 ≡ k.0 = ap (λ u. unwrap_or u 0) k.1 in
    subst (λ u. (u < n) × (value_at V u ≡ st x)) (sym is)
    (omega (arith, within_list V k.0 (st x) value, G.count), value_of V k.0 (st x) value)) in
    let cells = cells_known K V st (built V M) M n f s t G.count B.represents (stays t) S in
    formulas_are_preserved m i n (value_at V) V M (variables t.bindings) (successor K i) st xs f (G.model i l)
    (G.homomorphism i l) names_in terms_have
    (subst (λ j. AtCells (HasNext (variables t.bindings) (successor K j) n (value_at V) M) f) version cells)

pub agree_on : (m : Interpretation) (K : List Kind) (V : List ℕ) (at : ℕ → ℕ) (N : ℕ) → AreGround m K V at N
    → (st : Store) (f : Assertion) (s : Terms) → s.version < N
    → Sound K V st (built V (version_of m s.version)) (walked f s)
    → AgreeOn V (built V (version_of m s.version)) (version_of m s.version) st f
agree_on m K V at N G st f s l S =
    let M = version_of m s.version in
    let B = models_are_built V M (G.model s.version l) in
    assertions_agree V (built V M) M st f B.null B.owned B.represents (formula_named K V st (built V M) f s S)

-- some part of the built heap meets an assertion, or the whole does, exactly where its formula is true
pub part_is : (m : Interpretation) (K : List Kind) (V : List ℕ) (at : ℕ → ℕ) (N : ℕ) → AreGround m K V at N
    → (st : Store) (f : Assertion) (s : Terms) → s.version < N
    → Sound K V st (built V (version_of m s.version)) (walked f s)
    → IsTrue (truth m (meets K (under f s))) ↔ HasPart f st (built V (version_of m s.version))
part_is m K V at N G st f s l S =
    let I = preserved m K V at N G st f s l S in
    let R = agree_on m K V at N G st f s l S in
    let h = built V (version_of m s.version) in (
      λ e. let p = R.part.0 (I.part.0 e) in
          (p.0, without h p.0, part_splits p.0 h p.1, p.2),
      λ p. I.part.1 (R.part.1 (p.0, split_part h p.0 p.1 p.2, p.3)),
    )

pub whole_is : (m : Interpretation) (K : List Kind) (V : List ℕ) (at : ℕ → ℕ) (N : ℕ) → AreGround m K V at N
    → (st : Store) (f : Assertion) (s : Terms) → s.version < N
    → Sound K V st (built V (version_of m s.version)) (walked f s)
    → IsTrue (truth m (meets_whole K (under f s))) ↔ Meaning f st (built V (version_of m s.version))
whole_is m K V at N G st f s l S =
    let I = preserved m K V at N G st f s l S in
    let R = agree_on m K V at N G st f s l S in
    (λ e. R.whole.0 (I.whole.0 e), λ w. I.whole.1 (R.whole.1 w))

-- The formulas of a step are true exactly where the structures are one such step apart.
use Rattle.std.specs.Prelude.{◌≡◌, ◌≢◌, ◌⊎◌, ◌↔◌, ℕ, zero, suc, ◌+◌, ◌≤◌, ◌<◌, List, [], ◌∷◌, ◌++◌, map, length, Bool}
use Rattle.std.specs.Prelude.{true, false, not, ◌&&◌, ◌||◌, IsTrue, Contains}
use Rattle.std.specs.List.{flat_map, range_with_len}
use Rattle.std.proofs.Common.{refl, subst, inl, inr, arith}
use Rattle.std.proofs.lemmas.Bool.{cases_eq, false≢true}
use Rattle.std.proofs.lemmas.List.Elements.{All-nil, All-cons, All-head, All-tail}
use Rattle.gh_base.specs.declared.atom.Term.{Term}
use Rattle.gh_base.specs.declared.atom.Atom.TheVariants.{Hop, Alloc}
use Rattle.gh_base.specs.Meaning.{Interpretation}
use Rattle.gh_base.specs.Atoms.{term}
use Rattle.gh_assert.specs.Meaning.{Store}
use Rattle.gh_grass.specs.Claims.{GroundFormula, negation_of, equivalence_of, ground_formulas_of, all_of, one_of}
use Rattle.gh_grass.specs.Claims.{equality}
use Rattle.gh_grass.specs.Truth.{truth, all_true, AreTrue}
use Rattle.gh_path.specs.Terms.{Kind}
use Rattle.gh_symb.specs.Symbolic.{Under}
use Rattle.gh_symb.specs.Formulas.{allocated, hops, within, meets, each, each_pair, keeps, others_keep}
use Rattle.gh_symb.specs.Formulas.{outside_footprint, write_formulas, new_formulas, free_formulas, part_formulas}
use Rattle.gh_symb.specs.Formulas.{variables, successor}
use Rattle.gh_model.specs.Structures.{HeapStructure}
use Rattle.gh_model.specs.Representations.{IsInside, Fits}
use Rattle.gh_model.specs.Transitions.{KeepsHops, IsSetAside}
use Rattle.gh_model.specs.Homomorphisms.{IsHomomorphism, IsPreserved}
use Rattle.gh_model.specs.StepFormulas.{WritesArePreserved, NewsArePreserved, FreesArePreserved, CallsArePreserved}
use Rattle.gh_model.proofs.reading.Assertions.{and_is, or_is, not_is, last_and, agree_is, equal_is, all_in_row}
use Rattle.gh_model.proofs.reading.Assertions.{each_term, over_values}

-- a list of claims, by one test
pub are_true : (m : Interpretation) (fs : List GroundFormula)
    → AreTrue m fs ↔ IsTrue (all_true m (ground_formulas_of fs))
are_true m fs = (to fs, from fs)
  where
    to : (gs : List GroundFormula) → AreTrue m gs → IsTrue (all_true m (ground_formulas_of gs))
    to [] A = refl
    to (g ∷ gs) A = (and_is (truth m g) (all_true m (ground_formulas_of gs)) (IsTrue (truth m g))
        (IsTrue (all_true m (ground_formulas_of gs))) (λ e. e, λ e. e) (λ e. e, λ e. e)).1
        (All-head (λ f. truth m f ≡ true) g gs A, to gs (All-tail (λ f. truth m f ≡ true) g gs A))

    from : (gs : List GroundFormula) → IsTrue (all_true m (ground_formulas_of gs)) → AreTrue m gs
    from [] e = All-nil (λ f. truth m f ≡ true)
    from (g ∷ gs) e =
        let both = (and_is (truth m g) (all_true m (ground_formulas_of gs)) (IsTrue (truth m g))
        (IsTrue (all_true m (ground_formulas_of gs))) (λ e. e, λ e. e) (λ e. e, λ e. e)).0 e in
        All-cons (λ f. truth m f ≡ true) g gs both.0 (from gs both.1)

last_or : (a : Bool) (A : Type 0) → IsTrue a ↔ A → IsTrue (a || false) ↔ A
last_or true A f = f
last_or false A f = f

implied : (a b : Bool) (A B : Type 0) → IsTrue a ↔ A → IsTrue b ↔ B → IsTrue (not a || (b || false)) ↔ (A → B)
implied true b A B f g = let r = last_or b B g in (λ e x. r.0 e, λ h. r.1 (h (f.0 refl)))
implied false b A B f g = (λ e x. absurd (false≢true (f.1 x)), λ h. refl)

-- for each term, over values
each_value : (m : Interpretation) (i n : ℕ) (at : ℕ → ℕ) (V : List ℕ) (M : HeapStructure) → IsHomomorphism m i n at V M
    → (P : Term → GroundFormula) (Q : ℕ → Type 0) → ((z : ℕ) → z < n → IsTrue (truth m (P (term z))) ↔ Q (at z))
    → IsTrue (all_true m (ground_formulas_of (each n P))) ↔ ((v : ℕ) → Contains V v → Q v)
each_value m i n at V M S P Q f =
    let terms = each_term m P (λ z. Q (at z)) n f in
    let values = over_values m i n at V M S Q in
    (λ e. values.0 (terms.0 e), λ g. terms.1 (values.1 g))

-- for each pair
row_pairs : (m : Interpretation) (P : Term → List GroundFormula) (Q : ℕ → Type 0) (k n : ℕ)
    → ((z : ℕ) → k ≤ z → z < k + n → IsTrue (all_true m (ground_formulas_of (P (term z)))) ↔ Q z)
    → IsTrue (all_true m (ground_formulas_of (flat_map P (map term (range_with_len k n)))))
    ↔ ((z : ℕ) → k ≤ z → z < k + n → Q z)
row_pairs m P Q k zero f = (λ e z a b. absurd (omega arith), λ g. refl)
row_pairs m P Q k (suc n) f =
    let first = f k (omega arith) (omega arith) in
    let rest = row_pairs m P Q (k + 1) n (λ z a b. f z (omega arith) (omega arith)) in
    let both =
    all_in_row m (P (term k)) (flat_map P (map term (range_with_len (k + 1) n))) (Q k)
    ((z : ℕ) → k + 1 ≤ z → z < k + 1 + n → Q z) first rest in (
      λ e z a b. elim (cases_eq k z)
          [ inl same ↦ subst Q same (both.0 e).0 | inr other ↦ (both.0 e).1 z (omega arith) (omega arith) ],
      λ g. both.1 (g k (omega arith) (omega arith), λ z a b. g z (omega arith) (omega arith)),
    )

each_pair_value : (m : Interpretation) (i n : ℕ) (at : ℕ → ℕ) (V : List ℕ) (M : HeapStructure)
    → IsHomomorphism m i n at V M → (P : Term → Term → GroundFormula) (Q : ℕ → ℕ → Type 0)
    → ((z v : ℕ) → z < n → v < n → IsTrue (truth m (P (term z) (term v))) ↔ Q (at z) (at v))
    → IsTrue (all_true m (ground_formulas_of (each_pair n P))) ↔ ((z v : ℕ) → Contains V z → Contains V v → Q z v)
each_pair_value m i n at V M S P Q f =
    let rows = row_pairs m (λ z. each n (P z)) (λ z. z < n → (v : ℕ) → Contains V v → Q (at z) v) 0 n (λ z a b.
    let l : z < n = omega arith in
    let one = each_value m i n at V M S (P (term z)) (Q (at z)) (λ v lv. f z v l lv) in
    (λ e l'. one.0 e, λ g. one.1 (g l))) in (
      λ e z v cz cv. (let t = S.made_for z cz in
          subst (λ a. Q a v) t.2 (rows.0 e t.0 (omega arith) (omega (arith, t.1)) t.1 v cv)),
      λ g. rows.1 (λ z a b l v cv. g (at z) v (S.named z l) cv),
    )

-- hops that are kept
keeps_is : (m : Interpretation) (i n : ℕ) (at : ℕ → ℕ) (V : List ℕ) (M N : HeapStructure) → IsHomomorphism m i n at V M
    → IsHomomorphism m (i + 1) n at V N → (z v : ℕ) → z < n → v < n
    → IsTrue (truth m (keeps i (term z) (term v))) ↔ (IsTrue (N.hop (at z) (at v)) ↔ IsTrue (M.hop (at z) (at v)))
keeps_is m i n at V M N S S' z v lz lv =
    agree_is (m.table (Hop (i + 1) (term z) (term v))) (m.table (Hop i (term z) (term v)))
    (IsTrue (N.hop (at z) (at v))) (IsTrue (M.hop (at z) (at v))) (S'.hop z v lz lv) (S.hop z v lz lv)

others_are : (m : Interpretation) (i n : ℕ) (at : ℕ → ℕ) (V : List ℕ) (M N : HeapStructure)
    → IsHomomorphism m i n at V M → IsHomomorphism m (i + 1) n at V N → (x : ℕ) → x < n
    → IsTrue (all_true m (ground_formulas_of (others_keep n i (term x)))) ↔ KeepsHops V M N (at x)
others_are m i n at V M N S S' x lx =
    let pairs =
    each_pair_value m i n at V M S (λ z v. one_of (equality z (term x) ∷ keeps i z v ∷ []))
    (λ z v. z ≢ at x → IsTrue (N.hop z v) ↔ IsTrue (M.hop z v)) (λ z v lz lv.
    let either =
    or_is (truth m (equality (term z) (term x))) (truth m (keeps i (term z) (term v)) || false) (at z ≡ at x)
    (IsTrue (N.hop (at z) (at v)) ↔ IsTrue (M.hop (at z) (at v)))
    (equal_is m i n at V M S z x (at z) (at x) lz lx refl refl)
    (last_or (truth m (keeps i (term z) (term v))) (IsTrue (N.hop (at z) (at v)) ↔ IsTrue (M.hop (at z) (at v)))
    (keeps_is m i n at V M N S S' z v lz lv)) in (
      λ e other. elim (either.0 e) [ inl same ↦ absurd (other same) | inr k ↦ k ],
      λ g. either.1 (elim (cases_eq (at z) (at x)) [ inl same ↦ inl same | inr other ↦ inr (g other) ]),
    )) in
    (λ e z v cz cv other. pairs.0 e z v cz cv other, λ g. pairs.1 (λ z v cz cv other. g z v cz cv other))

one_is : (m : Interpretation) (f : GroundFormula) (A : Type 0) → IsTrue (truth m f) ↔ A
    → IsTrue (all_true m (ground_formulas_of (f ∷ []))) ↔ A
one_is m f A g = last_and (truth m f) A g

pub writes_are_preserved : WritesArePreserved
writes_are_preserved m i n at V M N S S' x e lx le =
    let Q : ℕ → Type 0 = λ z. IsTrue (N.alloc z) ↔ IsTrue (M.alloc z) in
    let P : Term → GroundFormula = λ z. equivalence_of (allocated (i + 1) z) (allocated i z) in
    let alloc =
    each_value m i n at V M S P Q
    (λ z l. agree_is (m.table (Alloc (i + 1) (term z))) (m.table (Alloc i (term z))) (IsTrue (N.alloc (at z)))
    (IsTrue (M.alloc (at z))) (S'.alloc z l) (S.alloc z l)) in
    let here = one_is m (hops (i + 1) (term x) (term e)) (IsTrue (N.hop (at x) (at e))) (S'.hop x e lx le) in
    let A : Type 0 = (v : ℕ) → Contains V v → Q v in
    let front =
    all_in_row m (each n P) (hops (i + 1) (term x) (term e) ∷ []) A (IsTrue (N.hop (at x) (at e))) alloc here in
    let whole =
    all_in_row m (each n P ++ hops (i + 1) (term x) (term e) ∷ []) (others_keep n i (term x))
    (A × IsTrue (N.hop (at x) (at e))) (KeepsHops V M N (at x)) front (others_are m i n at V M N S S' x lx) in
    let all = are_true m (write_formulas n i (term x) (term e)) in (
      λ t. (let w = whole.0 (all.0 t) in record { alloc = w.0.0; here = w.0.1; kept = w.1 }),
      λ W. all.1 (whole.1 ((W.alloc, W.here), W.kept)),
    )

pub news_are_preserved : NewsArePreserved
news_are_preserved m i n at V M N S S' l c ll lc =
    let Q : ℕ → Type 0 = λ z. IsTrue (N.alloc z) ↔ (IsTrue (M.alloc z) ⊎ (z ≡ at l)) in
    let P : Term → GroundFormula =
    λ z. equivalence_of (allocated (i + 1) z) (one_of (allocated i z ∷ equality z (term l) ∷ [])) in
    let alloc = each_value m i n at V M S P Q (λ z lz.
    agree_is (m.table (Alloc (i + 1) (term z)))
    (m.table (Alloc i (term z)) || (truth m (equality (term z) (term l)) || false)) (IsTrue (N.alloc (at z)))
    (IsTrue (M.alloc (at z)) ⊎ (at z ≡ at l)) (S'.alloc z lz)
    (or_is (m.table (Alloc i (term z))) (truth m (equality (term z) (term l)) || false) (IsTrue (M.alloc (at z)))
    (at z ≡ at l) (S.alloc z lz)
    (last_or (truth m (equality (term z) (term l))) (at z ≡ at l)
    (equal_is m i n at V M S z l (at z) (at l) lz ll refl refl)))) in
    let A : Type 0 = (v : ℕ) → Contains V v → Q v in
    let fresh =
    one_is m (negation_of (allocated i (term l))) (IsTrue (M.alloc (at l)) → ⊥)
    (not_is (m.table (Alloc i (term l))) (IsTrue (M.alloc (at l))) (S.alloc l ll)) in
    let here = one_is m (hops (i + 1) (term l) (term c)) (IsTrue (N.hop (at l) (at c))) (S'.hop l c ll lc) in
    let F : Type 0 = IsTrue (M.alloc (at l)) → ⊥ in
    let one = all_in_row m (negation_of (allocated i (term l)) ∷ []) (each n P) F A fresh alloc in
    let two =
    all_in_row m (negation_of (allocated i (term l)) ∷ [] ++ each n P) (hops (i + 1) (term l) (term c) ∷ []) (F × A)
    (IsTrue (N.hop (at l) (at c))) one here in
    let whole = all_in_row m (negation_of (allocated i (term l)) ∷ [] ++ each n P
    ++ hops (i + 1) (term l) (term c) ∷ []) (others_keep n i (term l)) ((F × A) × IsTrue (N.hop (at l) (at c)))
    (KeepsHops V M N (at l)) two (others_are m i n at V M N S S' l ll) in
    let all = are_true m (new_formulas n i (term l) (term c)) in (
      λ t. (let w = whole.0 (all.0 t) in
          record { fresh = w.0.0.0; alloc = w.0.0.1; here = w.0.1; kept = w.1 }),
      λ W. all.1 (whole.1 (((W.fresh, W.alloc), W.here), W.kept)),
    )

pub frees_are_preserved : FreesArePreserved
frees_are_preserved m i n at V M N S S' x lx =
    let Q : ℕ → Type 0 = λ z. IsTrue (N.alloc z) ↔ (IsTrue (M.alloc z) × (z ≢ at x)) in
    let P : Term → GroundFormula =
    λ z. equivalence_of (allocated (i + 1) z) (all_of (allocated i z ∷ negation_of (equality z (term x)) ∷ [])) in
    let alloc = each_value m i n at V M S P Q (λ z lz.
    agree_is (m.table (Alloc (i + 1) (term z)))
    (m.table (Alloc i (term z)) && (not (truth m (equality (term z) (term x))) && true)) (IsTrue (N.alloc (at z)))
    (IsTrue (M.alloc (at z)) × (at z ≢ at x)) (S'.alloc z lz)
    (and_is (m.table (Alloc i (term z))) (not (truth m (equality (term z) (term x))) && true) (IsTrue (M.alloc (at z)))
    (at z ≢ at x) (S.alloc z lz)
    (last_and (not (truth m (equality (term z) (term x)))) (at z ≢ at x)
    (not_is (truth m (equality (term z) (term x))) (at z ≡ at x)
    (equal_is m i n at V M S z x (at z) (at x) lz lx refl refl))))) in
    let A : Type 0 = (v : ℕ) → Contains V v → Q v in
    let whole =
    all_in_row m (each n P) (others_keep n i (term x)) A (KeepsHops V M N (at x)) alloc
    (others_are m i n at V M N S S' x lx) in
    let all = are_true m (free_formulas n i (term x)) in (
      λ t. (let w = whole.0 (all.0 t) in record { alloc = w.0; kept = w.1 }),
      λ W. all.1 (whole.1 (W.alloc, W.kept)),
    )

-- a kept cell
kept_is : (m : Interpretation) (at : ℕ → ℕ) (V : List ℕ) (M : HeapStructure) (ks : List Kind) (u : Under) (s : Store)
    → IsHomomorphism m u.version (length ks) at V M
    → IsPreserved m u.version (length ks) at V M (variables u.binding) (successor ks u.version) s u.assertion → (z : ℕ)
    → z < length ks → IsTrue (truth m (outside_footprint u.version u (term z))) ↔ IsSetAside u.assertion s M (at z)
kept_is m at V M ks u s S I z lz =
    and_is (m.table (Alloc u.version (term z))) (not (truth m (within u (term z))) && true) (IsTrue (M.alloc (at z)))
    (IsInside u.assertion s M (at z) → ⊥) (S.alloc z lz)
    (last_and (not (truth m (within u (term z)))) (IsInside u.assertion s M (at z) → ⊥)
    (not_is (truth m (within u (term z))) (IsInside u.assertion s M (at z)) (I.footprint z lz)))

pub calls_are_preserved : CallsArePreserved
calls_are_preserved m at V M N ks u q s t S S' I J =
    let i = u.version in
    let n = length ks in
    let k : (z : ℕ) → z < n → IsTrue (truth m (outside_footprint i u (term z))) ↔ IsSetAside u.assertion s M (at z) =
    kept_is m at V M ks u s S I in
    let X : Type 0 = Fits u.assertion s M V × Fits q.assertion t N V in
    let both =
    and_is (truth m (meets ks u)) (truth m (meets ks q) && true) (Fits u.assertion s M V) (Fits q.assertion t N V)
    I.part (last_and (truth m (meets ks q)) (Fits q.assertion t N V) J.part) in
    let apart_claim : Term → GroundFormula = λ z. negation_of (all_of (outside_footprint i u z ∷ within q z ∷ [])) in
    let Q : ℕ → Type 0 = λ z. (IsSetAside u.assertion s M z × IsInside q.assertion t N z) → ⊥ in
    let apart = each_value m i n at V M S apart_claim Q (λ z l.
    not_is (truth m (outside_footprint i u (term z)) && (truth m (within q (term z)) && true))
    (IsSetAside u.assertion s M (at z) × IsInside q.assertion t N (at z))
    (and_is (truth m (outside_footprint i u (term z))) (truth m (within q (term z)) && true)
    (IsSetAside u.assertion s M (at z)) (IsInside q.assertion t N (at z)) (k z l)
    (last_and (truth m (within q (term z))) (IsInside q.assertion t N (at z)) (J.footprint z l)))) in
    let alloc_claim : Term → GroundFormula =
    λ z. equivalence_of (allocated (i + 1) z) (one_of (outside_footprint i u z ∷ within q z ∷ [])) in
    let R : ℕ → Type 0 = λ z. IsTrue (N.alloc z) ↔ (IsSetAside u.assertion s M z ⊎ IsInside q.assertion t N z) in
    let alloc = each_value m i n at V M S alloc_claim R (λ z l.
    agree_is (m.table (Alloc (i + 1) (term z)))
    (truth m (outside_footprint i u (term z)) || (truth m (within q (term z)) || false)) (IsTrue (N.alloc (at z)))
    (IsSetAside u.assertion s M (at z) ⊎ IsInside q.assertion t N (at z)) (S'.alloc z l)
    (or_is (truth m (outside_footprint i u (term z))) (truth m (within q (term z)) || false)
    (IsSetAside u.assertion s M (at z)) (IsInside q.assertion t N (at z)) (k z l)
    (last_or (truth m (within q (term z))) (IsInside q.assertion t N (at z)) (J.footprint z l)))) in
    let keep_claim : Term → Term → GroundFormula =
    λ z v. one_of (negation_of (outside_footprint i u z) ∷ keeps i z v ∷ []) in
    let W : ℕ → ℕ → Type 0 = λ z v. IsSetAside u.assertion s M z → IsTrue (N.hop z v) ↔ IsTrue (M.hop z v) in
    let keep = each_pair_value m i n at V M S keep_claim W (λ z v lz lv.
    implied (truth m (outside_footprint i u (term z))) (truth m (keeps i (term z) (term v)))
    (IsSetAside u.assertion s M (at z)) (IsTrue (N.hop (at z) (at v)) ↔ IsTrue (M.hop (at z) (at v))) (k z lz)
    (keeps_is m i n at V M N S S' z v lz lv)) in
    let AllQ : Type 0 = (v : ℕ) → Contains V v → Q v in
    let AllR : Type 0 = (v : ℕ) → Contains V v → R v in
    let AllW : Type 0 = (z v : ℕ) → Contains V z → Contains V v → W z v in
    let one = all_in_row m (meets ks u ∷ meets ks q ∷ []) (each n apart_claim) X AllQ both apart in
    let two =
    all_in_row m ((meets ks u ∷ meets ks q ∷ []) ++ each n apart_claim) (each n alloc_claim) (X × AllQ) AllR one
    alloc in
    let three =
    all_in_row m ((meets ks u ∷ meets ks q ∷ []) ++ each n apart_claim ++ each n alloc_claim)
    (each_pair n keep_claim) ((X × AllQ) × AllR) AllW two keep in
    let all = are_true m (part_formulas ks i u (q ∷ [])) in (
      λ e. (
          let w = three.0 (all.0 e) in
          record {
            before = w.0.0.0.0;
            after = w.0.0.0.1;
            apart = λ z cz a b. w.0.0.1 z cz (a, b);
            alloc = w.0.1;
            kept = λ z v cz cv a. w.1 z v cz cv a;
          }
          ),
      λ C. all.1 (three.1 (
        (((C.before, C.after), λ z cz ab. C.apart z cz ab.0 ab.1), C.alloc),
        λ z v cz cv a. C.kept z v cz cv a,
      )),
    )

-- The formulas of a condition define nothing, so their clauses can be made true.
use Rattle.std.specs.Prelude.{◌≡◌, ℕ, ◌+◌, ◌-◌, List, [], ◌∷◌, ◌++◌, length, map, Bool, true, false, cond, ◌==◌, ◌||◌}
use Rattle.std.specs.Prelude.{All}
use Rattle.std.specs.List.{flat_map, range_with_len, list_any}
use Rattle.std.proofs.Common.{refl, sym, ◌∙◌, ap}
use Rattle.std.proofs.lemmas.List.Folds.{Any-from_list_any, list_any-from_Any}
use Rattle.std.proofs.lemmas.List.Elements.{All-nil, All-cons, All-weaker}
use Rattle.gh_base.specs.declared.atom.Term.{Term}
use Rattle.gh_base.specs.declared.atom.Atom.TheVariants.{Btwn, Hop, Alloc}
use Rattle.gh_base.specs.declared.sizes.Sizes.{Sizes}
use Rattle.gh_base.specs.Meaning.{Interpretation, IsCongruence, lit_truth, under as signed}
use Rattle.gh_ast.specs.Plain.{Procedure, Program, Cond, compare, negation, conjunction, disjunction, Conds, no_conds}
use Rattle.gh_ast.specs.Plain.{cond_first, Assertion, empty, comparison, points_to, cell, segment, star, cases}
use Rattle.gh_ast.specs.Plain.{Assertions, no_assertions, assertion_first}
use Rattle.gh_path.specs.Conditions.{Condition}
use Rattle.gh_inst.specs.declared.schema.Shape.{Shape}
use Rattle.gh_inst.specs.declared.schema.Shape.TheVariants.{Equal, Btwn as Between, Hop as Step, Alloc as Allocated}
use Rattle.gh_inst.specs.declared.schema.Pattern.{Pattern}
use Rattle.gh_inst.specs.declared.naming.InstanceName.{InstanceName}
use Rattle.std.specs.Prelude.{Option, Some, None}
use Rattle.gh_base.specs.Atoms.{terms_below}
use Rattle.gh_inst.specs.Schemas.{atom_of, lit_over, clause_over, term_at}
use Rattle.gh_inst.specs.Table.{AxiomRow, table, row_with}
use Rattle.gh_inst.specs.Instances.{instances, tuple_of, clause_of, clause_with}
use Rattle.gh_inst.specs.Violations.{IsInstanceTrue}
use Rattle.gh_grass.specs.Claims.{GroundFormula, negation_of, equivalence_of, ground_formulas_of, all_of, one_of}
use Rattle.gh_grass.specs.Claims.{equality}
use Rattle.gh_grass.specs.Footprints.{Variables, compared, tested, all_tested, footprint, footprints, members}
use Rattle.gh_grass.specs.Footprints.{apart_here, apart, all_apart, structure, structures}
use Rattle.gh_grass.specs.Truth.{HasEarlier, HaveEarlier, IsOneBefore}
use Rattle.gh_grass.proofs.LawLemmas.{formulas_give_clauses}
use Rattle.gh_path.specs.Terms.{Kind, null, value, next}
use Rattle.gh_symb.specs.Symbolic.{Under, TermStep, access_step, assume_step, same_step, write_step, new_step}
use Rattle.gh_symb.specs.Symbolic.{free_step, part_step, TermCheck, access, sub, whole, Symbolic, symbolic_of}
use Rattle.gh_symb.specs.Formulas.{allocated, variables, successor, within, meets, meets_whole, each, each_pair, leads}
use Rattle.gh_symb.specs.Formulas.{hops, succeeds, successor_formulas, successors_from, version_formulas}
use Rattle.gh_symb.specs.Formulas.{versions_formulas, keeps, others_keep, write_formulas, new_formulas, free_formulas}
use Rattle.gh_symb.specs.Formulas.{outside_footprint, placed_formulas, kept_formulas, alternatives_formulas}
use Rattle.gh_symb.specs.Formulas.{part_formulas, step_formulas, version_after, steps_formulas, check_formulas}
use Rattle.gh_symb.specs.Formulas.{condition_formulas, problem}
use Rattle.gh_model.specs.Abstraction.{Satisfies, IsModelOf, TracesGiveModels}
use Rattle.gh_model.proofs.soundness.Abstraction.{traces_satisfy}

-- some claims define nothing
abbrev pub Plain : List GroundFormula → Type 0
Plain fs = HaveEarlier 0 (ground_formulas_of fs)

pub plain_append : (fs gs : List GroundFormula) → Plain fs → Plain gs → Plain (fs ++ gs)
plain_append [] gs p q = q
plain_append (f ∷ fs) gs p q = (p.0, plain_append fs gs p.1 q)

plain_map : {X : Type 0} (P : X → GroundFormula) (zs : List X) → ((z : X) → HasEarlier 0 (P z)) → Plain (map P zs)
plain_map P [] h = tt
plain_map P (z ∷ zs) h = (h z, plain_map P zs h)

plain_rows : {X : Type 0} (P : X → List GroundFormula) (zs : List X) → ((z : X) → Plain (P z)) → Plain (flat_map P zs)
plain_rows P [] h = tt
plain_rows P (z ∷ zs) h = plain_append (P z) (flat_map P zs) (h z) (plain_rows P zs h)

pub all_plain : (fs : List GroundFormula) → Plain fs → All (HasEarlier 0) fs
all_plain [] p = All-nil (HasEarlier 0)
all_plain (f ∷ fs) p = All-cons (HasEarlier 0) f fs p.0 (all_plain fs p.1)

plain_compared : (x : Term) (e : Bool) (y : Term) → HasEarlier 0 (compared x e y)
plain_compared x true y = tt
plain_compared x false y = tt

mutual
  plain_test : (b : Variables) (t : Cond) → HasEarlier 0 (tested b t)
  plain_test b (compare l e r) = plain_compared _ e _
  plain_test b (negation t) = plain_test b t
  plain_test b (conjunction ts) = plain_tests b ts
  plain_test b (disjunction ts) = plain_tests b ts

  plain_tests : (b : Variables) (ts : Conds) → Plain (all_tested b ts)
  plain_tests b no_conds = tt
  plain_tests b (cond_first t ts) = (plain_test b t, plain_tests b ts)

mutual
  plain_footprint : (b : Variables) (i : ℕ) (z : Term) (f : Assertion) → HasEarlier 0 (footprint b i z f)
  plain_footprint b i z empty = tt
  plain_footprint b i z (comparison l e r) = tt
  plain_footprint b i z (points_to x y) = tt
  plain_footprint b i z (cell x) = tt
  plain_footprint b i z (segment x y) = (tt, (tt, tt))
  plain_footprint b i z (star fs) = plain_footprints b i z fs
  plain_footprint b i z (cases t f g) =
      ((plain_test b t, (plain_footprint b i z f, tt)), ((plain_test b t, (plain_footprint b i z g, tt)), tt))

  plain_footprints : (b : Variables) (i : ℕ) (z : Term) (fs : Assertions) → Plain (footprints b i z fs)
  plain_footprints b i z no_assertions = tt
  plain_footprints b i z (assertion_first f fs) = (plain_footprint b i z f, plain_footprints b i z fs)

plain_apart : (b : Variables) (i n : ℕ) (fs : List Assertion) → Plain (all_apart b i n fs)
plain_apart b i n [] = tt
plain_apart b i n (f ∷ fs) =
    plain_append (flat_map (apart b i n f) fs) (all_apart b i n fs)
    (plain_rows (apart b i n f) fs
    (λ g. plain_map (apart_here b i f g) (terms_below n)
    (λ z. (plain_footprint b i z f, (plain_footprint b i z g, tt))))) (plain_apart b i n fs)

mutual
  plain_structure : (b : Variables) (next' : Term → Term) (i n : ℕ) (f : Assertion)
      → HasEarlier 0 (structure b next' i n f)
  plain_structure b next' i n empty = tt
  plain_structure b next' i n (comparison l e r) = plain_compared _ e _
  plain_structure b next' i n (points_to x y) = (tt, (tt, tt))
  plain_structure b next' i n (cell x) = tt
  plain_structure b next' i n (segment x y) = tt
  plain_structure b next' i n (star fs) =
      plain_append (structures b next' i n fs) (all_apart b i n (members fs)) (plain_structures b next' i n fs)
      (plain_apart b i n (members fs))
  plain_structure b next' i n (cases t f g) = (
    (plain_test b t, (plain_structure b next' i n f, tt)),
    ((plain_test b t, (plain_structure b next' i n g, tt)), tt),
  )

  plain_structures : (b : Variables) (next' : Term → Term) (i n : ℕ) (fs : Assertions)
      → Plain (structures b next' i n fs)
  plain_structures b next' i n no_assertions = tt
  plain_structures b next' i n (assertion_first f fs) = (plain_structure b next' i n f, plain_structures b next' i n fs)

plain_within : (u : Under) (z : Term) → HasEarlier 0 (within u z)
plain_within u z = plain_footprint (variables u.binding) u.version z u.assertion

plain_meets : (ks : List Kind) (u : Under) → HasEarlier 0 (meets ks u)
plain_meets ks u = plain_structure (variables u.binding) (successor ks u.version) u.version (length ks) u.assertion

pub plain_whole : (ks : List Kind) (u : Under) → HasEarlier 0 (meets_whole ks u)
plain_whole ks u = (plain_meets ks u, plain_map _ (terms_below (length ks)) (λ z. (tt, plain_within u z)))

plain_kind : (i t : ℕ) (k : Kind) → Plain (successor_formulas i t k)
plain_kind i t null = tt
plain_kind i t (value n) = tt
plain_kind i t (next j x) = by_test (j == i)
  where
    by_test : (b : Bool) → Plain (cond b (succeeds i x t) [])
    by_test true = ((tt, (tt, tt)), ((tt, (tt, tt)), tt))
    by_test false = tt

plain_kinds : (i t : ℕ) (ks : List Kind) → Plain (successors_from i t ks)
plain_kinds i t [] = tt
plain_kinds i t (k ∷ ks) =
    plain_append (successor_formulas i t k) (successors_from i (t + 1) ks) (plain_kind i t k) (plain_kinds i (t + 1) ks)

pub plain_version : (ks : List Kind) (i : ℕ) → Plain (version_formulas ks i)
plain_version ks i = (
  tt,
  plain_append (each (length ks) (leads (length ks) i)) (successors_from i 0 ks)
      (plain_map (leads (length ks) i) (terms_below (length ks))
      (λ x. (tt, plain_map (hops i x) (terms_below (length ks)) (λ z. tt)))) (plain_kinds i 0 ks),
)

plain_pairs : (n : ℕ) (P : Term → Term → GroundFormula) → ((z v : Term) → HasEarlier 0 (P z v)) → Plain (each_pair n P)
plain_pairs n P h = plain_rows (λ z. each n (P z)) (terms_below n) (λ z. plain_map (P z) (terms_below n) (h z))

plain_others : (n i : ℕ) (x : Term) → Plain (others_keep n i x)
plain_others n i x = plain_pairs n _ (λ z v. (tt, ((tt, tt), tt)))

plain_kept : (i : ℕ) (u : Under) (z : Term) → HasEarlier 0 (outside_footprint i u z)
plain_kept i u z = (tt, (plain_within u z, tt))

plain_placed : (ks : List Kind) (i : ℕ) (u q : Under) → Plain (placed_formulas ks i u q)
plain_placed ks i u q =
    let n = length ks in
    let P : Term → GroundFormula = λ z. negation_of (all_of (outside_footprint i u z ∷ within q z ∷ [])) in
    let Q : Term → GroundFormula =
    λ z. equivalence_of (allocated (i + 1) z) (one_of (outside_footprint i u z ∷ within q z ∷ [])) in
    let proc : Plain (each n P) = plain_map P (terms_below n) (λ z. (plain_kept i u z, (plain_within q z, tt))) in
    let r : Plain (each n Q) = plain_map Q (terms_below n) (λ z. (tt, (plain_kept i u z, (plain_within q z, tt)))) in
    plain_append (meets ks q ∷ each n P) (each n Q) (plain_meets ks q, proc) r

plain_alternatives : (ks : List Kind) (i : ℕ) (u : Under) (qs : List Under) → Plain (alternatives_formulas ks i u qs)
plain_alternatives ks i u [] = (tt, tt)
plain_alternatives ks i u (q ∷ []) = plain_placed ks i u q
plain_alternatives ks i u (q ∷ r ∷ qs) =
    (plain_map (λ a. all_of (placed_formulas ks i u a)) (q ∷ r ∷ qs) (plain_placed ks i u), tt)

plain_parts : (ks : List Kind) (i : ℕ) (u : Under) (qs : List Under) → Plain (part_formulas ks i u qs)
plain_parts ks i u qs =
    let R : Term → Term → GroundFormula = λ z v. one_of (negation_of (outside_footprint i u z) ∷ keeps i z v ∷ []) in
    plain_append (meets ks u ∷ alternatives_formulas ks i u qs) (kept_formulas (length ks) i u)
    (plain_meets ks u, plain_alternatives ks i u qs)
    (plain_pairs (length ks) R (λ z v. (plain_kept i u z, ((tt, tt), tt))))

plain_written : (n i : ℕ) (x e : Term) → Plain (write_formulas n i x e)
plain_written n i x e =
    let P : Term → GroundFormula = λ z. equivalence_of (allocated (i + 1) z) (allocated i z) in
    plain_append (each n P ++ hops (i + 1) x e ∷ []) (others_keep n i x)
    (plain_append (each n P) (hops (i + 1) x e ∷ []) (plain_map P (terms_below n) (λ z. (tt, tt))) (tt, tt))
    (plain_others n i x)

plain_made : (n i : ℕ) (l c : Term) → Plain (new_formulas n i l c)
plain_made n i l c =
    let P : Term → GroundFormula =
    λ z. equivalence_of (allocated (i + 1) z) (one_of (allocated i z ∷ equality z l ∷ [])) in
    let first : List GroundFormula = negation_of (allocated i l) ∷ [] in
    plain_append (first ++ each n P ++ hops (i + 1) l c ∷ []) (others_keep n i l)
    (plain_append (first ++ each n P) (hops (i + 1) l c ∷ [])
    (plain_append first (each n P) (tt, tt) (plain_map P (terms_below n) (λ z. (tt, (tt, (tt, tt)))))) (tt, tt))
    (plain_others n i l)

plain_freed : (n i : ℕ) (x : Term) → Plain (free_formulas n i x)
plain_freed n i x =
    let P : Term → GroundFormula =
    λ z. equivalence_of (allocated (i + 1) z) (all_of (allocated i z ∷ negation_of (equality z x) ∷ [])) in
    plain_append (each n P) (others_keep n i x) (plain_map P (terms_below n) (λ z. (tt, (tt, (tt, tt)))))
    (plain_others n i x)

plain_step : (ks : List Kind) (i : ℕ) (s : TermStep) → Plain (step_formulas ks i s)
plain_step ks i (access_step x) = (tt, tt)
plain_step ks i (assume_step l e r) = (plain_compared _ e _, tt)
plain_step ks i same_step = tt
plain_step ks i (write_step x e) = plain_written (length ks) i _ _
plain_step ks i (new_step l c) = plain_made (length ks) i _ _
plain_step ks i (free_step x) = plain_freed (length ks) i _
plain_step ks i (part_step u qs) = plain_parts ks i u qs

plain_steps : (ks : List Kind) (i : ℕ) (ss : List TermStep) → Plain (steps_formulas ks i ss)
plain_steps ks i [] = tt
plain_steps ks i (s ∷ ss) =
    plain_append (step_formulas ks i s) (steps_formulas ks (version_after i s) ss) (plain_step ks i s)
    (plain_steps ks (version_after i s) ss)

plain_check : (ks : List Kind) (i : ℕ) (c : TermCheck) → Plain (check_formulas ks i c)
plain_check ks i (access x) = (tt, tt)
plain_check ks i (sub u) = (plain_meets ks u, tt)
plain_check ks i (whole []) = tt
plain_check ks i (whole (u ∷ [])) = (plain_whole ks u, tt)
plain_check ks i (whole (u ∷ v ∷ us)) = (plain_map (meets_whole ks) (u ∷ v ∷ us) (plain_whole ks), tt)

plain_claims : (s : Symbolic) → Plain (condition_formulas s)
plain_claims s =
    let a = versions_formulas s.terms s.versions in
    let b = meets_whole s.terms s.start ∷ [] in
    let c = steps_formulas s.terms 0 s.steps in
    plain_append (a ++ b ++ c) (check_formulas s.terms (s.versions - 1) s.check)
    (plain_append (a ++ b) c (plain_append a b
    (plain_rows (version_formulas s.terms) (range_with_len 0 s.versions) (plain_version s.terms))
    (plain_whole s.terms s.start, tt)) (plain_steps s.terms 0 s.steps))
    (plain_check s.terms (s.versions - 1) s.check)

-- definitions don't touch the axioms
same_class : (m n : Interpretation) → IsOneBefore 0 m n → (x : ℕ) → n.class x ≡ m.class x
same_class m n B x = ap (λ f. f x) B.class

pub congruence_stays : (s : Sizes) (m n : Interpretation) → IsOneBefore 0 m n → IsCongruence s m → IsCongruence s n
congruence_stays s m n B C = record {
  btwn = λ v x y z x' y' z' r r' a b c. B.table (Btwn v x y z) tt
      ∙ C.btwn v x y z x' y' z' r r' (to x.0 x'.0 a) (to y.0 y'.0 b) (to z.0 z'.0 c)
      ∙ sym (B.table (Btwn v x' y' z') tt);
  hop = λ v x y x' y' r r' a b. B.table (Hop v x y) tt ∙ C.hop v x y x' y' r r' (to x.0 x'.0 a) (to y.0 y'.0 b)
      ∙ sym (B.table (Hop v x' y') tt);
  alloc = λ v x x' r r' a. B.table (Alloc v x) tt ∙ C.alloc v x x' r r' (to x.0 x'.0 a) ∙ sym (B.table (Alloc v x') tt);
}
  where
    to : (x y : ℕ) → n.class x ≡ n.class y → m.class x ≡ m.class y
    to x y e = sym (same_class m n B x) ∙ e ∙ same_class m n B y

atom_stays : (m n : Interpretation) → IsOneBefore 0 m n
    → (shape : Shape) (positive : Bool) (version : ℕ) (at : ℕ → Term)
    → lit_truth m (record { atom = atom_of shape version at; positive = positive })
    ≡ lit_truth n (record { atom = atom_of shape version at; positive = positive })
atom_stays m n B Equal positive version at =
    ap (λ f. lit_truth (record { class = f; table = n.table })
    (record { atom = atom_of Equal version at; positive = positive })) (sym B.class)
atom_stays m n B Between positive version at = ap (signed positive) (sym (B.table (atom_of Between version at) tt))
atom_stays m n B Step positive version at = ap (signed positive) (sym (B.table (atom_of Step version at) tt))
atom_stays m n B Allocated positive version at = ap (signed positive) (sym (B.table (atom_of Allocated version at) tt))

clause_stays : (m n : Interpretation) → IsOneBefore 0 m n → (version : ℕ) (ts : List Term) (ps : List Pattern)
    → list_any (lit_truth m) (clause_over version ts ps) ≡ list_any (lit_truth n) (clause_over version ts ps)
clause_stays m n B version ts [] = refl
clause_stays m n B version ts (p ∷ ps) =
    ap (λ b. b || list_any (lit_truth m) (clause_over version ts ps))
    (atom_stays m n B p.shape p.positive version (term_at ts p.places))
    ∙ ap (λ b. lit_truth n (lit_over version ts p) || b) (clause_stays m n B version ts ps)

row_stays : (m n : Interpretation) → IsOneBefore 0 m n → (name : InstanceName) (o : Option AxiomRow)
    → list_any (lit_truth m) (clause_with name o) ≡ list_any (lit_truth n) (clause_with name o)
row_stays m n B name None = refl
row_stays m n B name (Some r) = clause_stays m n B name.version (tuple_of name) r.lits

pub instance_stays : (m n : Interpretation) → IsOneBefore 0 m n → (name : InstanceName) → IsInstanceTrue m name
    → IsInstanceTrue n name
instance_stays m n B name t =
    Any-from_list_any (lit_truth n) (clause_of name)
    (sym (row_stays m n B name (row_with name.row table)) ∙ list_any-from_Any (lit_truth m) (clause_of name) t)

-- definitions can be given values that make all clauses true
pub model_from : (P : Program) (proc : Procedure) (c : Condition) (m : Interpretation) → Satisfies P proc c m
    → (n : Interpretation) × IsOneBefore 0 m n × IsModelOf P proc c n
model_from P proc c m S =
    let fs = condition_formulas (symbolic_of P proc c) in
    let made' = formulas_give_clauses m fs 0 (all_plain fs (plain_claims (symbolic_of P proc c))) S.formulas in
    let sizes = (problem (symbolic_of P proc c)).sizes in (
      made'.0,
      made'.1,
      record {
        congruence = congruence_stays sizes m made'.0 made'.1 S.congruence;
        instances =
            All-weaker (IsInstanceTrue m) (IsInstanceTrue made'.0) (instance_stays m made'.0 made'.1)
            (instances sizes.terms sizes.versions) S.instances;
        clauses = made'.2;
      },
    )

pub traces_give_models : TracesGiveModels
traces_give_models P proc c x ys typed is of C =
    let (m, S) = traces_satisfy P proc c x ys typed is of C in
    let made' = model_from P proc c m S in
    (made'.0, made'.2)

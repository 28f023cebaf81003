-- The formulas of the check that a counterexample fails.
use Rattle.std.specs.Prelude.{◌≡◌, ℕ, List, [], ◌∷◌, map, slice_get, Option, Some, None, Bool, true, false, not}
use Rattle.std.specs.Prelude.{Contains}
use Rattle.std.proofs.Common.{refl, sym, ◌∙◌, ap, subst}
use Rattle.std.proofs.lemmas.List.Elements.{All-nil}
use Rattle.gh_base.specs.declared.place.Span.{Span}
use Rattle.gh_base.specs.Atoms.{term}
use Rattle.gh_ast.specs.declared.Expr.{Expr}
use Rattle.gh_ast.specs.Plain.{Assertion, Procedure, Program}
use Rattle.gh_ast.specs.Programs.{Name, parameters_of}
use Rattle.gh_ast.proofs.Lists.{one_value}
use Rattle.gh_assert.specs.Heaps.{Heap, IsProper}
use Rattle.gh_assert.specs.Meaning.{Store, Meaning, HasPart}
use Rattle.gh_assert.specs.Ownership.{Owned}
use Rattle.gh_assert.proofs.Unions.{without, part_splits}
use Rattle.gh_path.specs.Graphs as path
use Rattle.gh_path.specs.Terms.{Kind, next, Bindings, Terms, used, term_of, exprs_used, exprs_terms, walked, rebound}
use Rattle.gh_path.specs.Terms.{bound_inside, entry_walked, invariant_walked, check_walked, step_walked, steps_walked}
use Rattle.gh_grass.specs.Claims.{negation_of}
use Rattle.gh_grass.specs.Truth.{truth, AreTrue}
use Rattle.gh_symb.specs.Symbolic.{under, each_under, needs_under, entered_under, ended_under, term_check, term_steps}
use Rattle.gh_symb.specs.Symbolic.{check_used, first_use, either_term, state_bindings}
use Rattle.gh_symb.specs.Formulas.{allocated, meets, meets_whole, check_formulas}
use Rattle.gh_trace.specs.Traces.{State, Passes, IsTrace, last_state}
use Rattle.gh_trace.specs.Laws.{HasOwnNames}
use Rattle.gh_model.specs.Structures.{HeapStructure}
use Rattle.gh_model.specs.Representations.{Represents, AgreeOn}
use Rattle.gh_model.specs.TermValues.{path_version, HasStateValues, HaveValues}
use Rattle.gh_model.proofs.terms.Extension.{Within, Grows, stays, used_grows, exprs_grow, each_grows}
use Rattle.gh_model.proofs.terms.Denotation.{Sound, listed, term_at, formula_named, exprs_values}
use Rattle.gh_model.proofs.terms.Callees.{inside_before}
use Rattle.gh_model.proofs.terms.Alternatives.{alternative_of, alternative_sound, Fails, none_met}
use Rattle.gh_model.proofs.heaps.Agreement.{assertions_agree}
use Rattle.gh_path.proofs.ListLemmas.{member as numbered}
use Rattle.gh_model.proofs.ownership.Traces.{step_version, here, sound_from, check_used_within, invariant_grows}
use Rattle.gh_model.proofs.soundness.TraceValues.{HeapsAre}
use Rattle.gh_model.proofs.soundness.Interpretation.{value_at, value_of, reflection}
use Rattle.gh_model.proofs.soundness.Versions.{AreVersions}
use Rattle.gh_model.proofs.soundness.StepTruth.{under_preserved, one_claim}

-- the last state
pub record IsLast (K : List Kind) (V : List ℕ) (H : ℕ → Heap) (b : Bindings) (s : Terms) (z : State) : Type 0 where
  pub values : HasStateValues K V s.version b z
  pub heap : H s.version ≡ z.heap

pub last_values : (P : Program) (home : Procedure) (K : List Kind) (V : List ℕ) (H : ℕ → Heap) (c : path.Check)
    (ps : List path.PathStep) (s : Terms) (x : State) (ys : List State)
    → HaveValues P K V ps (term_steps P home ps s) (state_bindings P home ps c s) s.version x ys
    → HeapsAre H ps x ys s.version → IsTrace P home x ps ys
    → IsLast K V H (here P home [] c (steps_walked P home ps s)) (steps_walked P home ps s) (last_state x ys)
last_values P home K V H c [] s x [] values at T = record { values = values; heap = at }
last_values P home K V H c [] s x (y ∷ ys) values at T = absurd T
last_values P home K V H c (proc ∷ ps) s x [] values at T = absurd T
last_values P home K V H c (proc ∷ ps) s x (y ∷ ys) values at T =
    let t = step_walked P home proc s in
    let version : t.version ≡ path_version proc s.version = step_version P home proc s x y T.0 in
    last_values P home K V H c ps t y ys
    (subst (λ j. HaveValues P K V ps (term_steps P home ps t) (state_bindings P home ps c t) j y ys) (sym version)
    values.3) (subst (HeapsAre H ps y ys) (sym version) at.1) T.1

used_check_grows : (home : Procedure) (c : path.Check) (s : Terms) → Grows s (check_used home c s)
used_check_grows home (path.access o) s = used_grows o.name s
used_check_grows home (path.callee_entry spot n es) s = exprs_grow es s
used_check_grows home (path.loop_entry spot n) s = invariant_grows (slice_get (path.loops_of home) n) s
used_check_grows home (path.return_check spot) s = each_grows home.gives s
used_check_grows home (path.loop_end spot n) s = invariant_grows (slice_get (path.loops_of home) n) s

used_term : (P : Program) (home : Procedure) (c : path.Check) (s : Terms) (y : Name) (t : ℕ)
    → (check_used home c s).bindings y ≡ Some t → here P home [] c s y ≡ Some t
used_term P home c s y t e = by_binding (s.bindings y) refl
  where
    by_binding : (o : Option ℕ) → s.bindings y ≡ o → either_term (s.bindings y) (first_use P home [] c s y) ≡ Some t
    by_binding (Some u) f =
        ap (λ o. either_term o (first_use P home [] c s y)) f ∙ sym ((used_check_grows home c s).bindings y u f) ∙ e
    by_binding None f = ap (λ o. either_term o (first_use P home [] c s y)) f ∙ e

pub off_test : (a : Bool) → (a ≡ true → ⊥) → not a ≡ true
off_test true n = absurd (n refl)
off_test false n = refl

-- what a structure says of an assertion in the last heap
agree_there : (K : List Kind) (V : List ℕ) (H : ℕ → Heap) (M : ℕ → HeapStructure) → AreVersions V K H M
    → (st : Store) (h : Heap) (f : Assertion) (s : Terms) (i : ℕ) → H i ≡ h → Sound K V st h (walked f s)
    → AgreeOn V h (M i) st f
agree_there K V H M A st h f s i at S =
    assertions_agree V h (M i) st f (subst IsProper at (A.proper i)) (subst (Owned V) at (A.owned i))
    (subst (λ g. Represents V g (M i)) at (A.represents i)) (formula_named K V st h f s S)

part_there : (K : List Kind) (V : List ℕ) (H : ℕ → Heap) (M : ℕ → HeapStructure) → AreVersions V K H M
    → (st : Store) (h : Heap) (f : Assertion) (s : Terms) → H s.version ≡ h → Sound K V st h (walked f s)
    → truth (reflection V M) (meets K (under f s)) ≡ true → HasPart f st h
part_there K V H M A st h f s at S e =
    let I = under_preserved K V H M A st h f s s.version refl at S in
    let agree = agree_there K V H M A st h f s s.version at S in
    let part = agree.part.0 (I.part.0 e) in
    (part.0, without h part.0, part_splits part.0 h part.1, part.2)

part_fails : (K : List Kind) (V : List ℕ) (H : ℕ → Heap) (M : ℕ → HeapStructure) → AreVersions V K H M
    → (st : Store) (h : Heap) (f : Assertion) (s : Terms) → H s.version ≡ h → Sound K V st h (walked f s)
    → (HasPart f st h → ⊥) → truth (reflection V M) (negation_of (meets K (under f s))) ≡ true
part_fails K V H M A st h f s at S fails =
    off_test (truth (reflection V M) (meets K (under f s))) (λ e. fails (part_there K V H M A st h f s at S e))

whole_fails : (K : List Kind) (V : List ℕ) (H : ℕ → Heap) (M : ℕ → HeapStructure) → AreVersions V K H M
    → (st : Store) (h : Heap) (f : Assertion) (s : Terms) → H s.version ≡ h → Sound K V st h (walked f s)
    → (Meaning f st h → ⊥) → truth (reflection V M) (negation_of (meets_whole K (under f s))) ≡ true
whole_fails K V H M A st h f s at S fails = off_test (truth (reflection V M) (meets_whole K (under f s))) (λ e.
    let I = under_preserved K V H M A st h f s s.version refl at S in
    let agree = agree_there K V H M A st h f s s.version at S in
    fails (agree.whole.0 (I.whole.0 e)))

entry_true : (P : Program) (home : Procedure) (K : List Kind) (V : List ℕ) (H : ℕ → Heap) (M : ℕ → HeapStructure)
    → AreVersions V K H M → ((q : Procedure) → Contains P.procedures q → HasOwnNames q)
    → (spot : Span) (n : ℕ) (es : List Expr) (s : Terms) (z : State) (i : ℕ)
    → HasStateValues K V s.version (here P home [] (path.callee_entry spot n es) s) z → H s.version ≡ z.heap
    → Sound K V z.store z.heap (exprs_used es s) → (Passes P home (path.callee_entry spot n es) z → ⊥)
    → (o : Option Procedure) → slice_get P.procedures n ≡ o
    → Within (entry_walked o (exprs_terms es (exprs_used es s)) (exprs_used es s)).kinds K
    → AreTrue (reflection V M) (check_formulas K i (needs_under o (exprs_terms es (exprs_used es s)) (exprs_used es s)))
entry_true P home K V H M A N spot n es s z i values at S fails None e w =
    All-nil (λ u. truth (reflection V M) u ≡ true)
entry_true P home K V H M A N spot n es s z i values at S fails (Some proc) e w =
    let T = exprs_used es s in
    let ts = exprs_terms es T in
    let s1 = rebound T (bound_inside proc ts) in
    let version : T.version ≡ s.version = (exprs_grow es s).version in
    one_claim (reflection V M) (negation_of (meets K (under proc.needs s1)))
    (off_test (truth (reflection V M) (meets K (under proc.needs s1))) (λ is. fails (λ q vs inside callee give args.
    let same : proc ≡ q = one_value (slice_get P.procedures n) proc q e callee in
    let own = N q (numbered P.procedures n q callee) in
    let own' : HasOwnNames proc = subst HasOwnNames (sym same) own in
    let args' : map inside (parameters_of proc) ≡ vs =
    subst (λ (r : Procedure). map inside (parameters_of r) ≡ vs) (sym same) args in
    let first =
    inside_before K V z.heap proc ts vs T inside own'.needs_in (exprs_values K V z.store z.heap es vs s S give)
    args' A.kinds.null w (λ t u v a. values.next t u v (a ∙ ap (λ j. Some (next j u)) version)) in
    subst (λ (r : Procedure). HasPart r.needs inside z.heap) same
    (part_there K V H M A inside z.heap proc.needs s1 (ap H version ∙ at) first is))))

-- the check of a loop, where it is entered and where its body ends
entered_true : (K : List Kind) (V : List ℕ) (H : ℕ → Heap) (M : ℕ → HeapStructure) → AreVersions V K H M
    → (i : ℕ) (st : Store) (h : Heap) (s : Terms) → H s.version ≡ h → (o : Option path.While)
    → (((l : path.While) → o ≡ Some l → HasPart l.invariant st h) → ⊥) → Sound K V st h (invariant_walked o s)
    → AreTrue (reflection V M) (check_formulas K i (entered_under o s))
entered_true K V H M A i st h s at None fails S = All-nil (λ u. truth (reflection V M) u ≡ true)
entered_true K V H M A i st h s at (Some l) fails S =
    one_claim (reflection V M) (negation_of (meets K (under l.invariant s)))
    (part_fails K V H M A st h l.invariant s at S
    (λ part. fails (λ k is. subst (λ (j : path.While). HasPart j.invariant st h) (one_value (Some l) l k refl is)
    part)))

ended_true : (K : List Kind) (V : List ℕ) (H : ℕ → Heap) (M : ℕ → HeapStructure) → AreVersions V K H M
    → (i : ℕ) (st : Store) (h : Heap) (s : Terms) → H s.version ≡ h → (o : Option path.While)
    → (((l : path.While) → o ≡ Some l → Meaning l.invariant st h) → ⊥) → Sound K V st h (invariant_walked o s)
    → AreTrue (reflection V M) (check_formulas K i (ended_under o s))
ended_true K V H M A i st h s at None fails S = All-nil (λ u. truth (reflection V M) u ≡ true)
ended_true K V H M A i st h s at (Some l) fails S =
    one_claim (reflection V M) (negation_of (meets_whole K (under l.invariant s)))
    (whole_fails K V H M A st h l.invariant s at S
    (λ met. fails (λ k is. subst (λ (j : path.While). Meaning j.invariant st h) (one_value (Some l) l k refl is)
    met)))

pub check_true : (P : Program) (home : Procedure) (K : List Kind) (V : List ℕ) (H : ℕ → Heap) (M : ℕ → HeapStructure)
    → AreVersions V K H M → ((q : Procedure) → Contains P.procedures q → HasOwnNames q)
    → (c : path.Check) (s : Terms) (z : State) (i : ℕ)
    → i ≡ s.version → Within (check_walked P home c s).kinds K → HasStateValues K V s.version (here P home [] c s) z
    → H s.version ≡ z.heap → (Passes P home c z → ⊥)
    → AreTrue (reflection V M) (check_formulas K i (term_check P home c s))
check_true P home K V H M A N c s z i version w values at fails =
    by_check c s z i version w values at fails
    (sound_from K V s.version (here P home [] c s) z (check_used home c s) A.kinds.null values
    (used_check_grows home c s).version (λ j k e. w j k (check_used_within P home c s j k e)) (used_term P home c s))
  where
    by_check : (c : path.Check) (s : Terms) (z : State) (i : ℕ) → i ≡ s.version
        → Within (check_walked P home c s).kinds K → HasStateValues K V s.version (here P home [] c s) z
        → H s.version ≡ z.heap → (Passes P home c z → ⊥) → Sound K V z.store z.heap (check_used home c s)
        → AreTrue (reflection V M) (check_formulas K i (term_check P home c s))
    by_check (path.access o) s z i version w values at fails S =
        let t = term_of o.name (used o.name s) in
        let is = term_at K V z.store z.heap o.name s (used o.name s) (stays (used o.name s)) S in
        let T : Represents V z.heap (M i) = subst (λ g. Represents V g (M i)) (ap H version ∙ at) (A.represents i) in
        one_claim (reflection V M) (negation_of (allocated i (term t)))
        (off_test ((M i).alloc (value_at V t))
        (λ a. fails ((T.alloc (z.store o.name) (listed V t (z.store o.name) is)).0
        (sym (ap (M i).alloc (value_of V t (z.store o.name) is)) ∙ a))))
    by_check (path.callee_entry spot n es) s z i version w values at fails S =
        entry_true P home K V H M A N spot n es s z i values at S fails (slice_get P.procedures n) refl w
    by_check (path.loop_entry spot n) s z i version w values at fails S =
        entered_true K V H M A i z.store z.heap s at (slice_get (path.loops_of home) n) fails S
    by_check (path.return_check spot) s z i version w values at fails S =
        none_met (reflection V M) K i (each_under home.gives s) (λ u there.
        let (f, t, is, W) = alternative_of home.gives s u there in
        subst (Fails (reflection V M) K) (sym is)
        (whole_fails K V H M A z.store z.heap f t (ap H W.first.version ∙ at)
        (alternative_sound K V z.store z.heap home.gives s f t W S) (λ met. fails (f, W.member, met))))
    by_check (path.loop_end spot n) s z i version w values at fails S =
        ended_true K V H M A i z.store z.heap s at (slice_get (path.loops_of home) n) fails S

-- The trace of an interpretation in which a condition's clauses are true is a counterexample.
use Rattle.std.specs.Prelude.{◌≡◌, ℕ, ◌+◌, ◌-◌, ◌<◌, List, [], ◌∷◌, length}
use Rattle.std.proofs.Common.{refl, sym, ◌∙◌, ap, subst, inl, inr, arith}
use Rattle.gh_base.specs.Meaning.{Interpretation}
use Rattle.gh_ast.specs.Plain.{Procedure, Program}
use Rattle.gh_ast.specs.Programs.{Name, variable_names}
use Rattle.gh_ast.specs.Rules.{IsTyped}
use Rattle.gh_assert.specs.Meaning.{Meaning}
use Rattle.gh_assert.specs.Walks.{Allocated}
use Rattle.gh_path.specs.Graphs as path
use Rattle.gh_path.specs.Terms.{Kind, Terms, exprs_used, exprs_terms, check_walked, step_walked, steps_walked, no_terms}
use Rattle.gh_grass.specs.Truth.{AreTrue}
use Rattle.gh_symb.specs.Symbolic.{call_parts, loop_parts, begins, term_step, term_steps, term_check, state_bindings}
use Rattle.gh_symb.specs.Symbolic.{symbolic_of}
use Rattle.gh_symb.specs.Formulas.{step_formulas, steps_formulas, check_formulas, version_after}
use Rattle.gh_trace.specs.Traces.{State, StepLeads, Passes, IsTrace, last_state, Counterexample}
use Rattle.gh_trace.specs.Validity.{AreCounterexample}
use Rattle.gh_model.specs.Versions.{equal_in}
use Rattle.gh_model.specs.Classes.{class_of, classes}
use Rattle.gh_model.specs.TermValues.{path_version}
use Rattle.gh_model.specs.BuiltTraces.{store_under, heap_in, state_under, versions_along, states_under, LocalityHolds}
use Rattle.gh_model.proofs.terms.Extension.{Within, walked_grows}
use Rattle.gh_model.proofs.terms.Denotation.{Sound}
use Rattle.gh_model.proofs.ownership.Traces.{here, own_term, steps_within, check_within}
use Rattle.gh_model.proofs.paths.Typing.{Nowhere, IsPrepared, ArePrepared, ready_after, paths_are_prepared}
use Rattle.gh_model.proofs.terms.Bounds.{IsBounded, walked_bounded, step_bounded, steps_up, check_version}
use Rattle.gh_model.proofs.locality.BuiltVersions.{AreGround, ground, parts_true, all_claims, all_front, all_back}
use Rattle.gh_model.proofs.locality.BuiltVersions.{state_sound, whole_is}
use Rattle.gh_model.proofs.locality.Steps.{heap_of, make, IsLocal, state_before, state_after, prepared_version}
use Rattle.gh_model.proofs.locality.Steps.{access_takes, assume_takes, set_takes, return_takes, new_takes, write_takes}
use Rattle.gh_model.proofs.locality.Steps.{free_takes}
use Rattle.gh_model.proofs.locality.Calls.{loop_takes, call_takes}
use Rattle.gh_model.proofs.locality.Checks.{check_fails}

step_takes : (P : Program) (home : Procedure) (m : Interpretation) (K : List Kind) (V : List ℕ) (at : ℕ → ℕ) (N : ℕ)
    (c : path.Check) (R : Name → Type 0) (proc : path.PathStep) (ps : List path.PathStep) (s : Terms)
    → IsLocal P home m K V at N c R proc ps s
    → StepLeads P home proc (state_before P home m V at c proc ps s) (state_after P home m V at c proc ps s)
step_takes P home m K V at N c R (path.access_step o) ps s I = access_takes P home m K V at N c R o ps s I
step_takes P home m K V at N c R (path.assume_step l e r) ps s I = assume_takes P home m K V at N c R l e r ps s I
step_takes P home m K V at N c R (path.set_step o e) ps s I = set_takes P home m K V at N c R o e ps s I
step_takes P home m K V at N c R (path.new_step o) ps s I = new_takes P home m K V at N c R o ps s I
step_takes P home m K V at N c R (path.write_step o e) ps s I = write_takes P home m K V at N c R o e ps s I
step_takes P home m K V at N c R (path.free_step o) ps s I = free_takes P home m K V at N c R o ps s I
step_takes P home m K V at N c R (path.call_step ys n es) ps s I = call_takes P home m K V at N c R ys n es ps s I
step_takes P home m K V at N c R (path.while_step n) ps s I = loop_takes P home m K V at N c R n ps s I
step_takes P home m K V at N c R (path.return_step es) ps s I = return_takes P home m K V at N c R es ps s I

-- the version after a step, as its formulas count it
pub prepared_past : (P : Program) (home : Procedure) (R : Name → Type 0) (proc : path.PathStep) (s : Terms) (i : ℕ)
    → IsPrepared P home R proc → version_after i (term_step P home proc s) ≡ path_version proc i
prepared_past P home R (path.access_step o) s i A = refl
prepared_past P home R (path.assume_step l e r) s i A = refl
prepared_past P home R (path.set_step x e) s i A = refl
prepared_past P home R (path.new_step x) s i A = refl
prepared_past P home R (path.write_step x e) s i A = refl
prepared_past P home R (path.free_step x) s i A = refl
prepared_past P home R (path.call_step ys n es) s i A =
    ap (λ o. version_after i (call_parts o (exprs_terms es (exprs_used es s)) (exprs_used es s))) A.1.entry.at
prepared_past P home R (path.while_step n) s i A = ap (λ o. version_after i (loop_parts o (variable_names home) s)) A.1
prepared_past P home R (path.return_step es) s i A = refl

-- what was accessed stays so
ready_next : (P : Program) (home : Procedure) (m : Interpretation) (K : List Kind) (V : List ℕ) (at : ℕ → ℕ) (N : ℕ)
    (c : path.Check) (R : Name → Type 0) (proc : path.PathStep) (ps : List path.PathStep) (s : Terms)
    → IsLocal P home m K V at N c R proc ps s → (n : Name) → ready_after proc R n
    → Allocated (heap_of m V (path_version proc s.version))
    (store_under at (here P home ps c (step_walked P home proc s)) n)
ready_next P home m K V at N c R (path.access_step o) ps s I n r =
    let proc = path.access_step o in
    let takes = access_takes P home m K V at N c R o ps s I in
    let x = state_before P home m V at c proc ps s in
    let before : Allocated x.heap (x.store n) = elim r [
      | inl same ↦ subst (λ y. Allocated x.heap (x.store y)) (sym same) takes.0
      | inr old ↦ I.ready n old
    ] in
    subst (λ (z : State). Allocated z.heap (z.store n)) (sym takes.1) before
ready_next P home m K V at N c R (path.assume_step l e r') ps s I n r = absurd r
ready_next P home m K V at N c R (path.set_step o e) ps s I n r = absurd r
ready_next P home m K V at N c R (path.new_step o) ps s I n r = absurd r
ready_next P home m K V at N c R (path.write_step o e) ps s I n r = absurd r
ready_next P home m K V at N c R (path.free_step o) ps s I n r = absurd r
ready_next P home m K V at N c R (path.call_step ys k es) ps s I n r = absurd r
ready_next P home m K V at N c R (path.while_step k) ps s I n r = absurd r
ready_next P home m K V at N c R (path.return_step es) ps s I n r = absurd r

-- the state at a walk's terms, in version i, and the states after it
abbrev state_in : Program → Procedure → Interpretation → ℕ → path.Check → List path.PathStep → Terms → ℕ → State
state_in P home m n c ps s i = state_under m n i (here P home ps c s)

abbrev rest_in : Program → Procedure → Interpretation → ℕ → path.Check → List path.PathStep → Terms → ℕ → List State
rest_in P home m n c [] s i = []
rest_in P home m n c (proc ∷ ps) s i =
    state_in P home m n c ps (step_walked P home proc s) (path_version proc i)
    ∷ rest_in P home m n c ps (step_walked P home proc s) (path_version proc i)

states_are : (P : Program) (home : Procedure) (m : Interpretation) (n : ℕ) (c : path.Check) (ps : List path.PathStep)
    (s : Terms) (i : ℕ) → states_under m n (versions_along i ps) (state_bindings P home ps c s)
    ≡ state_in P home m n c ps s i ∷ rest_in P home m n c ps s i
states_are P home m n c [] s i = refl
states_are P home m n c (proc ∷ ps) s i =
    ap (λ zs. state_in P home m n c (proc ∷ ps) s i ∷ zs)
    (states_are P home m n c ps (step_walked P home proc s) (path_version proc i))

-- all that is known from a state on
record IsOnWay (P : Program) (home : Procedure) (m : Interpretation) (K : List Kind) (V : List ℕ) (at : ℕ → ℕ) (N : ℕ)
    (c : path.Check) (R : Name → Type 0) (ps : List path.PathStep) (s : Terms) (i : ℕ) : Type 0 where
  prepared : ArePrepared P home R ps c
  ready : (n : Name) → R n → Allocated (heap_of m V i) (store_under at (here P home ps c s) n)
  steps : AreTrue m (steps_formulas K i (term_steps P home ps s))
  within : Within (check_walked P home c (steps_walked P home ps s)).kinds K
  bounded : IsBounded s
  version : s.version ≡ i
  last : N ≡ (steps_walked P home ps s).version + 1

record IsLed (P : Program) (home : Procedure) (c : path.Check) (x : State) (ps : List path.PathStep)
    (ys : List State) : Type 0 where
  leads : IsTrace P home x ps ys
  fails : Passes P home c (last_state x ys) → ⊥

along : (P : Program) (home : Procedure) (m : Interpretation) (K : List Kind) (V : List ℕ) (N : ℕ) (c : path.Check)
    → IsTyped P → AreGround m K V (class_of (equal_in m) (length K)) N
    → (R : Name → Type 0) (ps : List path.PathStep) (s : Terms) (i : ℕ)
    → IsOnWay P home m K V (class_of (equal_in m) (length K)) N c R ps s i
    → AreTrue m (check_formulas K (N - 1) (term_check P home c (steps_walked P home ps s)))
    → IsLed P home c (state_in P home m (length K) c ps s i) ps (rest_in P home m (length K) c ps s i)
along P home m K V N c typed G R [] s i I check =
    let at = class_of (equal_in m) (length K) in
    let v : N - 1 ≡ s.version = omega (arith, I.last) in
    let before : s.version < N = omega (arith, I.last) in
    let st = store_under at (here P home [] c s) in
    let fails : Passes P home c (make st (heap_of m V s.version)) → ⊥ = check_fails P home m K V at N c R s record {
      typed = typed;
      ground = G;
      prepared = I.prepared;
      ready = subst (λ j. (n : Name) → R n → Allocated (heap_of m V j) (st n)) (sym I.version) I.ready;
      claims = subst (λ j. AreTrue m (check_formulas K j (term_check P home c s))) v check;
      within = I.within;
      bounded = I.bounded;
      before = before;
    } in
    let fails' : Passes P home c (make st (heap_in m (length K) s.version)) → ⊥ =
    subst (λ h. Passes P home c (make st h) → ⊥) (sym (G.heap s.version before)) fails in
    record { leads = tt; fails = subst (λ j. Passes P home c (make st (heap_in m (length K) j)) → ⊥) I.version fails' }
along P home m K V N c typed G R (proc ∷ ps) s i I check =
    let at = class_of (equal_in m) (length K) in
    let n = length K in
    let t = step_walked P home proc s in
    let end = steps_walked P home ps t in
    let version : t.version ≡ path_version proc s.version = prepared_version P home R proc s I.prepared.0 in
    let version' : t.version ≡ path_version proc i = version ∙ ap (path_version proc) I.version in
    let within : Within t.kinds K =
    λ j k e. I.within j k (check_within P home c end j k (steps_within P home ps t j k e)) in
    let before : s.version < N = omega (arith, I.last, steps_up P home (proc ∷ ps) s) in
    let after : path_version proc s.version < N =
    subst (λ j. j < N) version (omega (arith, I.last, steps_up P home ps t)) in
    let st = store_under at (here P home (proc ∷ ps) c s) in
    let st' = store_under at (here P home ps c t) in
    let local : IsLocal P home m K V at N c R proc ps s = record {
      typed = typed;
      ground = G;
      prepared = I.prepared.0;
      ready = subst (λ j. (n : Name) → R n → Allocated (heap_of m V j) (st n)) (sym I.version) I.ready;
      claims =
          subst (λ j. AreTrue m (step_formulas K j (term_step P home proc s))) (sym I.version)
          (all_front m (step_formulas K i (term_step P home proc s))
          (steps_formulas K (version_after i (term_step P home proc s)) (term_steps P home ps t)) I.steps);
      within = within;
      bounded = I.bounded;
      before = before;
      after = after;
    } in
    let built' : StepLeads P home proc (make st (heap_of m V s.version))
    (make st' (heap_of m V (path_version proc s.version))) = step_takes P home m K V at N c R proc ps s local in
    let half : StepLeads P home proc (make st (heap_in m n s.version))
    (make st' (heap_of m V (path_version proc s.version))) =
    subst (λ h. StepLeads P home proc (make st h) (make st' (heap_of m V (path_version proc s.version))))
    (sym (G.heap s.version before)) built' in
    let full : StepLeads P home proc (make st (heap_in m n s.version))
    (make st' (heap_in m n (path_version proc s.version))) =
    subst (λ h. StepLeads P home proc (make st (heap_in m n s.version)) (make st' h))
    (sym (G.heap (path_version proc s.version) after)) half in
    let takes : StepLeads P home proc (make st (heap_in m n i)) (make st' (heap_in m n (path_version proc i))) =
    subst (λ j. StepLeads P home proc (make st (heap_in m n j)) (make st' (heap_in m n (path_version proc j))))
    I.version full in
    let rest = along P home m K V N c typed G (ready_after proc R) ps t (path_version proc i) (record {
      prepared = I.prepared.1;
      ready =
          subst (λ j. (n : Name) → ready_after proc R n → Allocated (heap_of m V (path_version proc j)) (st' n))
          I.version (ready_next P home m K V at N c R proc ps s local);
      steps =
          subst (λ j. AreTrue m (steps_formulas K j (term_steps P home ps t)))
          (prepared_past P home R proc s i I.prepared.0)
          (all_back m (step_formulas K i (term_step P home proc s))
          (steps_formulas K (version_after i (term_step P home proc s)) (term_steps P home ps t)) I.steps);
      within = I.within;
      bounded = step_bounded P home proc s I.bounded;
      version = version';
      last = I.last;
    }) check in
    record { leads = (takes, rest.leads); fails = rest.fails }

pub none_bounded : IsBounded no_terms
none_bounded = record { some = omega arith; below = λ y t e. absurd cc }

pub locality_holds : LocalityHolds
locality_holds P proc c m typed is of I =
    let S = symbolic_of P proc c in
    let K = S.terms in
    let n = length K in
    let N = S.versions in
    let V : List ℕ = classes (equal_in m) n in
    let at = class_of (equal_in m) n in
    let f = path.meets_at proc c.start in
    let ps = c.way.steps in
    let k = c.way.check in
    let s = begins proc c.start in
    let end = steps_walked P proc ps s in
    let G = ground P proc c m I in
    let parts = parts_true S m (all_claims P proc c m I) in
    let version : s.version ≡ 0 = (walked_grows f no_terms).version in
    let last : N ≡ end.version + 1 = ap (λ i. i + 1) (check_version P proc k end) in
    let within : Within (check_walked P proc k end).kinds K = λ i l e. e in
    let first : Within s.kinds K = λ i l e. check_within P proc k end i l (steps_within P proc ps s i l e) in
    let bounded : IsBounded s = walked_bounded f no_terms none_bounded in
    let some : 0 < N = omega (arith, last) in
    let sound : Sound K V (store_under at (here P proc ps k s)) (heap_of m V 0) s =
    state_sound m K V at N G 0 some (here P proc ps k s) s version first bounded (own_term P proc ps k s) in
    let led = along P proc m K V N k typed G Nowhere ps s 0 (record {
      prepared = paths_are_prepared P proc c typed is of;
      ready = λ y r. absurd r;
      steps = parts.steps;
      within = within;
      bounded = bounded;
      version = version;
      last = last;
    }) parts.check in
    let st = store_under at (here P proc ps k s) in
    let begins' : Meaning f st (heap_of m V 0) = (whole_is m K V at N G st f no_terms some sound).0 parts.start in
    let done : Counterexample P proc f ps k (state_in P proc m n k ps s 0) (rest_in P proc m n k ps s 0) = record {
      begins = subst (Meaning f st) (sym (G.heap 0 some)) begins';
      leads = led.leads;
      fails = led.fails;
    } in
    let all : AreCounterexample P c (state_in P proc m n k ps s 0 ∷ rest_in P proc m n k ps s 0) = (proc, of, done) in
    subst (AreCounterexample P c) (sym (states_are P proc m n k ps s 0)) all

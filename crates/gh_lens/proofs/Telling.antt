-- The traces that are told.
use Rattle.std.specs.Prelude.{◌≡◌, ℕ, List, [], ◌∷◌, ◌++◌, map, All, Some, None, slice_get, codes}
use Rattle.std.proofs.Common.{refl, sym, ◌∙◌, ap, subst}
use Rattle.std.proofs.lemmas.List.Elements.{All-head, All-tail}
use Rattle.gh_ast.specs.Plain.{Procedure, Program}
use Rattle.gh_ast.proofs.Lists.{one_value}
use Rattle.gh_path.specs.Answers.{IsNumbered}
use Rattle.gh_path.specs.Conditions.{Condition, IsConditionAt, IsOf, StepIsThere}
use Rattle.gh_path.specs.Graphs.{PathStep}
use Rattle.gh_path.specs.Kept.{condition_of, step_of, IsScoped}
use Rattle.gh_path.specs.declared.condition.Condition as kept
use Rattle.gh_path.specs.declared.condition.PathStep as kept_step
use Rattle.gh_draw.specs.Drawings.{line}
use Rattle.gh_trace.specs.declared.state.State as kept_state
use Rattle.gh_trace.specs.declared.state.Trace as kept_trace
use Rattle.gh_trace.specs.declared.replay.ReplayError.TheVariants.{Step}
use Rattle.gh_trace.specs.Kept.{state_of, drawn, drawn_of, IsFailure}
use Rattle.gh_trace.specs.Replay.{Drawn, IsDrawnCounterexample, FirstFailure}
use Rattle.gh_trace.specs.Traces.{Passes, last_state}
use Rattle.gh_lens.specs.Misses.{IsFailing, IsFailingOr}
use Rattle.gh_lens.specs.Stories.{TellsStep, AreStepsTold, TellsSteps, TellsHeading, IsStoryOr, IsToldOf, IsToldFor}
use Rattle.gh_lens.specs.Stories.{PassesAtEnd}

-- the states that are drawn
states_same : (ys : List kept_state.State) → map (λ (d : Drawn). d.state) (map drawn ys) ≡ map state_of ys
states_same [] = refl
states_same (y ∷ ys) = ap (λ zs. state_of y ∷ zs) (states_same ys)

-- a counterexample doesn't pass its check
pub fails_at_end : (P : Program) (c : Condition) (x : kept_state.State) (ys : List kept_state.State)
    → IsDrawnCounterexample P c (map drawn (x ∷ ys)) → PassesAtEnd P c x ys → ⊥
fails_at_end P c x ys against passes =
    let first : against.first ≡ drawn x = cc (sym against.states) in
    let others : against.others ≡ map drawn ys = cc (sym against.states) in
    let end : last_state against.first.state (map (λ (d : Drawn). d.state) against.others)
    ≡ last_state (state_of x) (map state_of ys) =
    ap (λ d. last_state d.state (map (λ (d : Drawn). d.state) against.others)) first
    ∙ ap (λ ds. last_state (state_of x) (map (λ (d : Drawn). d.state) ds)) others
    ∙ ap (last_state (state_of x)) (states_same ys) in
    passes against.procedure against.of
    (subst (λ z. Passes P against.procedure c.way.check z → ⊥) end against.counterexample.fails)

-- a counterexample has a first state
pub not_empty : (P : Program) (c : Condition) (xs : List kept_state.State) → IsDrawnCounterexample P c (map drawn xs) → xs ≡ [] → ⊥
not_empty P c xs against e =
    let none : map drawn xs ≡ [] = ap (map drawn) e in
    let two : against.first ∷ against.others ≡ [] = sym against.states ∙ none in
    absurd cc

-- the steps are told one by one
pub no_steps : (P : Program) (proc : Procedure) (rs : List kept_step.PathStep) (x : kept_state.State)
    (ys : List kept_state.State) (text : List ℕ) → rs ≡ [] → text ≡ [] → TellsSteps P proc rs x ys text
no_steps P proc rs x ys text none e = subst (λ zs. TellsSteps P proc zs x ys text) (sym none) e

pub no_states : (P : Program) (proc : Procedure) (rs : List kept_step.PathStep) (x : kept_state.State)
    (ys : List kept_state.State) (text : List ℕ) → ys ≡ [] → text ≡ [] → TellsSteps P proc rs x ys text
no_states P proc rs x ys text none e = subst (λ zs. TellsSteps P proc rs x zs text) (sym none) (told (map step_of rs))
  where
    told : (ss : List PathStep) → AreStepsTold P proc ss x [] text
    told [] = e
    told (s ∷ ss) = e

pub one_more : (P : Program) (proc : Procedure) (rs later : List kept_step.PathStep) (r : kept_step.PathStep)
    (x y : kept_state.State) (all ys : List kept_state.State) (first rest text : List ℕ) → rs ≡ r ∷ later → all ≡ y ∷ ys
    → TellsStep P proc r x y first → TellsSteps P proc later y ys rest → text ≡ first ++ rest
    → TellsSteps P proc rs x all text
one_more P proc rs later r x y all ys first rest text steps states one more e =
    let told : TellsSteps P proc (r ∷ later) x (y ∷ ys) text = (first, rest, e, one, more) in
    subst (λ zs. TellsSteps P proc rs x zs text) (sym states)
    (subst (λ zs. TellsSteps P proc zs x (y ∷ ys) text) (sym steps) told)

-- the lines of a condition, from its description to its check
pub story_told : (P : Program) (r : kept.Condition) (proc : Procedure) (x last : kept_state.State)
    (ys : List kept_state.State) (missed lines steps text : List ℕ) → IsOf P (condition_of r) proc
    → state_of last ≡ last_state (state_of x) (map state_of ys)
    → IsFailingOr P proc r.check.kind (state_of last) (Some missed) → TellsHeading P r x lines
    → TellsSteps P proc r.steps.items x ys steps
    → text ≡ lines ++ steps ++ line (codes "the check fails:") ++ missed → IsStoryOr P r x ys (Some text)
story_told P r proc x last ys missed lines steps text own end fails heads tells e =
    record {
      procedure = proc;
      of = own;
      steps = steps;
      failing = missed;
      are_told = tells;
      is_failing = subst (λ z. IsFailing P proc (condition_of r).way.check z missed) end (fails r.check.span);
      text_is = e ∙ ap (λ t. t ++ steps ++ line (codes "the check fails:") ++ missed) heads;
    }

-- no lines, where the check is passed
pub no_story : (P : Program) (r : kept.Condition) (proc : Procedure) (x last : kept_state.State)
    (ys : List kept_state.State) → IsOf P (condition_of r) proc
    → state_of last ≡ last_state (state_of x) (map state_of ys) → IsFailingOr P proc r.check.kind (state_of last) None
    → IsStoryOr P r x ys None
no_story P r proc x last ys own end fails q of =
    let same : proc ≡ q = one_value (slice_get P.procedures r.procedure) proc q own of in
    subst (λ t. (Passes P t (condition_of r).way.check (last_state (state_of x) (map state_of ys)) → ⊥) → ⊥) same
    (subst (λ z. (Passes P proc (condition_of r).way.check z → ⊥) → ⊥) end (fails r.check.span))

-- the numbers of the steps of a condition of the procedure are there
pub steps_there : (P : Program) (proc : Procedure) (r : kept.Condition) → IsScoped P r → IsOf P (condition_of r) proc
    → All (StepIsThere P proc) (map step_of r.steps.items)
steps_there P proc r (q, of, there) own =
    let same : q ≡ proc = one_value (slice_get P.procedures r.procedure) q proc of own in
    subst (λ t. All (StepIsThere P t) (map step_of r.steps.items)) same there.steps

-- and so are those of the first and of those after it
pub first_and_later : (P : Program) (proc : Procedure) (k : kept_step.PathStep) (ks rs : List kept_step.PathStep)
    → rs ≡ k ∷ ks → All (StepIsThere P proc) (map step_of rs)
    → StepIsThere P proc (step_of k) × All (StepIsThere P proc) (map step_of ks)
first_and_later P proc k ks rs e there =
    let all : All (StepIsThere P proc) (step_of k ∷ map step_of ks) =
    subst (λ zs. All (StepIsThere P proc) (map step_of zs)) e there in (
      All-head (StepIsThere P proc) (step_of k) (map step_of ks) all,
      All-tail (StepIsThere P proc) (step_of k) (map step_of ks) all,
    )

-- a counterexample is told
pub told_whole : (P : Program) (r : kept.Condition) (xs ys : List kept_state.State) (x : kept_state.State)
    (text : List ℕ) → xs ≡ x ∷ ys → IsDrawnCounterexample P (condition_of r) (map drawn xs) → IsStoryOr P r x ys (Some text)
    → IsToldFor P r xs text
told_whole P r xs ys x text states shown story =
    record { first = x; others = ys; states = states; refutes = shown; story = story }

pub told_by_a_story : (P : Program) (r : kept.Condition) (xs ys : List kept_state.State) (x : kept_state.State)
    → xs ≡ x ∷ ys → IsDrawnCounterexample P (condition_of r) (map drawn xs) → IsStoryOr P r x ys None → ⊥
told_by_a_story P r xs ys x states shown passes =
    fails_at_end P (condition_of r) x ys (subst (λ zs. IsDrawnCounterexample P (condition_of r) (map drawn zs)) states shown) passes

-- a condition that fits is of a procedure
pub has_procedure : (P : Program) (r : kept.Condition) → IsScoped P r → slice_get P.procedures r.procedure ≡ None → ⊥
has_procedure P r (proc, of, there) none = let at : slice_get P.procedures r.procedure ≡ Some proc = of in absurd cc

-- the condition of a number, and what is drawn for it
pub shown : (P : Program) (r : kept.Condition) (t : kept_trace.Trace) (xs : List kept_state.State)
    → IsDrawnCounterexample P (condition_of r) (drawn_of t) → xs ≡ t.states.items → IsDrawnCounterexample P (condition_of r) (map drawn xs)
shown P r t xs refuted is = subst (λ zs. IsDrawnCounterexample P (condition_of r) (map drawn zs)) (sym is) refuted

pub told_by_number : (P : Program) (n : ℕ) (r : kept.Condition) (t : kept_trace.Trace) (xs : List kept_state.State)
    (text : List ℕ) → IsNumbered P n (Some r) → xs ≡ t.states.items → IsToldFor P r xs text
    → (c : Condition) × IsConditionAt P n c × IsToldOf P c t.states.items text
told_by_number P n r t xs text found is told =
    (condition_of r, found, subst (λ zs. IsToldOf P (condition_of r) zs text) is told)

pub fails_by_number : (P : Program) (n k : ℕ) (r : kept.Condition) (t : kept_trace.Trace) → IsNumbered P n (Some r)
    → IsFailure P r (drawn_of t) (Step k)
    → (c : Condition) × IsConditionAt P n c × FirstFailure P c (map drawn t.states.items) k
fails_by_number P n k r t found fails = (condition_of r, found, fails)

-- The lines that tell a counterexample step by step.
use Rattle.std.specs.Prelude.{◌≡◌, ℕ, List, [], ◌∷◌, ◌++◌, map, Option, Some, None, codes}
use Rattle.gh_ast.specs.Plain.{Procedure, Program}
use Rattle.gh_assert.specs.Stores.{listed_names}
use Rattle.gh_path.specs.Graphs.{PathStep}
use Rattle.gh_path.specs.Conditions.{Condition, IsConditionAt, IsNoNumber, IsOf}
use Rattle.gh_draw.specs.Descriptions.{description}
use Rattle.gh_draw.specs.Drawings.{line, state_lines}
use Rattle.gh_trace.specs.declared.state.State.{State}
use Rattle.gh_path.specs.Kept.{condition_of, step_of}
use Rattle.gh_path.specs.declared.condition.Condition as kept
use Rattle.gh_path.specs.declared.condition.PathStep as kept_step
use Rattle.gh_trace.specs.Kept.{state_of, drawn}
use Rattle.gh_trace.specs.Traces.{Passes, last_state}
use Rattle.gh_trace.specs.Replay.{IsDrawnCounterexample, FirstFailure}
use Rattle.gh_lens.specs.declared.exchange.Exchange.{Exchange}
use Rattle.gh_lens.specs.declared.story.Explained.{Explained}
use Rattle.gh_lens.specs.declared.story.Explained.TheVariants.{Told, Fails, Unnumbered}
use Rattle.gh_lens.specs.Statements.{statement_text}
use Rattle.gh_lens.specs.Lines.{changes_text, exchange_text}
use Rattle.gh_lens.specs.Handed.{IsHandedOr}
use Rattle.gh_lens.specs.Misses.{IsFailing}

abbrev pub handed_text : Option Exchange → List ℕ
handed_text None = []
handed_text (Some e) = exchange_text e

-- the statement, what changes, and what is handed over
pub record IsStepTold (P : Program) (proc : Procedure) (s : PathStep) (x y : State) (text : List ℕ) : Type 0 where
  pub exchange : Option Exchange
  pub handed : IsHandedOr P proc s (state_of x) (state_of y) exchange
  pub text_is : text ≡ line (statement_text P proc s) ++ changes_text x y ++ handed_text exchange

-- the same of a step as it is kept, and its statement alone
abbrev pub TellsStep : Program → Procedure → kept_step.PathStep → State → State → List ℕ → Type 0
TellsStep P proc r x y text = IsStepTold P proc (step_of r) x y text

abbrev pub TellsStatement : Program → Procedure → kept_step.PathStep → List ℕ → Type 0
TellsStatement P proc r text = text ≡ line (statement_text P proc (step_of r))

-- the steps in turn, as far as there are states
abbrev pub AreStepsTold : Program → Procedure → List PathStep → State → List State → List ℕ → Type 0
AreStepsTold P proc [] x ys text = text ≡ []
AreStepsTold P proc (s ∷ ss) x [] text = text ≡ []
AreStepsTold P proc (s ∷ ss) x (y ∷ ys) text =
    (a : List ℕ) × (b : List ℕ) × (text ≡ a ++ b) × IsStepTold P proc s x y a × AreStepsTold P proc ss y ys b

abbrev pub TellsSteps : Program → Procedure → List kept_step.PathStep → State → List State → List ℕ → Type 0
TellsSteps P proc rs x ys text = AreStepsTold P proc (map step_of rs) x ys text

-- the condition and the first state
abbrev pub heading : Program → Condition → State → List ℕ
heading P c x = line (description P c) ++ state_lines (listed_names x.store) (state_of x)

abbrev pub TellsHeading : Program → kept.Condition → State → List ℕ → Type 0
TellsHeading P r x text = text ≡ heading P (condition_of r) x

-- the condition, the first state, the steps, and where the check fails in the last state
pub record IsStory (P : Program) (c : Condition) (x : State) (ys : List State) (text : List ℕ) : Type 0 where
  pub procedure : Procedure
  pub of : IsOf P c procedure
  pub steps : List ℕ
  pub failing : List ℕ
  pub are_told : AreStepsTold P procedure c.way.steps x ys steps
  pub is_failing : IsFailing P procedure c.way.check (last_state (state_of x) (map state_of ys)) failing
  pub text_is : text ≡ heading P c x ++ steps ++ line (codes "the check fails:") ++ failing

-- the check is passed in the last state, up to a double negation
abbrev pub PassesAtEnd : Program → Condition → State → List State → Type 0
PassesAtEnd P c x ys =
    (proc : Procedure) → IsOf P c proc → (Passes P proc c.way.check (last_state (state_of x) (map state_of ys)) → ⊥) → ⊥

-- the story of the condition that is kept; or its check is passed
abbrev pub IsStoryOr : Program → kept.Condition → State → List State → Option (List ℕ) → Type 0
IsStoryOr P r x ys (Some text) = IsStory P (condition_of r) x ys text
IsStoryOr P r x ys None = PassesAtEnd P (condition_of r) x ys

-- the states are a counterexample of the condition, and the text tells it
pub record IsToldOf (P : Program) (c : Condition) (xs : List State) (text : List ℕ) : Type 0 where
  pub first : State
  pub others : List State
  pub states : xs ≡ first ∷ others
  pub refutes : IsDrawnCounterexample P c (map drawn xs)
  pub story : IsStory P c first others text

abbrev pub IsToldFor : Program → kept.Condition → List State → List ℕ → Type 0
IsToldFor P r xs text = IsToldOf P (condition_of r) xs text

-- what is told of states for the condition of a number: a story, or their first failure, or that there is no such
-- condition
abbrev pub IsExplained : Program → ℕ → List State → Explained → Type 0
IsExplained P n xs (Told text) = (c : Condition) × IsConditionAt P n c × IsToldOf P c xs text
IsExplained P n xs (Fails k) = (c : Condition) × IsConditionAt P n c × FirstFailure P c (map drawn xs) k
IsExplained P n xs Unnumbered = IsNoNumber P n

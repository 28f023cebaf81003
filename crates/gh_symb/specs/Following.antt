-- How far a condition over terms is encoded when its walk has come to some terms.
use Rattle.std.specs.Prelude.{◌≡◌, ℕ, List, [], ◌∷◌, ◌++◌, Option, Some, None}
use Rattle.gh_ast.specs.Plain.{Procedure, Program}
use Rattle.gh_ast.specs.Programs.{Name}
use Rattle.gh_path.specs.Graphs.{PathStep}
use Rattle.gh_path.specs.Conditions.{Condition}
use Rattle.gh_path.specs.Terms.{Bindings, Terms, step_walked, steps_walked}
use Rattle.gh_symb.specs.Symbolic as plain
use Rattle.gh_symb.specs.Symbolic.{term_steps, first_use, begins}
use Rattle.gh_symb.specs.Encodings.{Each}
use Rattle.gh_symb.specs.Fitting.{EncodesStep}
use Rattle.gh_symb.specs.Remaining.{Remains}
use Rattle.gh_symb.specs.declared.over_terms.TermStep.{TermStep}

-- the bindings that a walk has at the states
abbrev pub met : Program → Procedure → List PathStep → Terms → List Bindings
met P proc [] s = s.bindings ∷ []
met P proc (x ∷ xs) s = s.bindings ∷ met P proc xs (step_walked P proc x s)

-- what is known of a variable that has a term, else what comes later
abbrev pub known : Option ℕ → Option ℕ → Option ℕ → Option ℕ
known (Some t) before later = before
known None before later = later

-- the first uses of a condition after its start
abbrev pub first_uses : Program → Procedure → Condition → Bindings
first_uses P proc c y = let first = begins proc c.start in
    known (first.bindings y) None (first_use P proc c.way.steps c.way.check first y)

-- steps are left; what was met and encoded before them, and what was learned of first uses
pub record IsFollowed (P : Program) (proc : Procedure) (steps : List PathStep) (c : Condition) (s : Terms)
    (firsts : Bindings) (states : List Bindings) (encoded : List TermStep) : Type 0 where
  pub lead : Remains P proc steps c s
  pub plain_steps : List plain.TermStep
  pub are_encodings : Each EncodesStep encoded plain_steps
  pub all_steps : plain_steps ++ term_steps P proc steps s ≡ term_steps P proc c.way.steps (begins proc c.start)
  pub meet : states ++ met P proc steps s ≡ met P proc c.way.steps (begins proc c.start)
  pub lack : (y : Name) → s.bindings y ≡ None → firsts y ≡ None
  pub first : (y : Name) → known (s.bindings y) (firsts y) (first_use P proc steps c.way.check s y)
      ≡ first_uses P proc c y

-- no steps are left
pub record Followed (P : Program) (proc : Procedure) (c : Condition) (s : Terms) (firsts : Bindings)
    (states : List Bindings) (encoded : List TermStep) : Type 0 where
  pub last : s ≡ steps_walked P proc c.way.steps (begins proc c.start)
  pub are_encodings : Each EncodesStep encoded (term_steps P proc c.way.steps (begins proc c.start))
  pub meet : states ≡ met P proc c.way.steps (begins proc c.start)
  pub first : (y : Name) → firsts y ≡ first_uses P proc c y

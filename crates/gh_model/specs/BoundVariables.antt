-- The variables that have terms at the states of a condition.
use Rattle.std.specs.Prelude.{◌≡◌, ℕ, List, [], ◌∷◌, Some, Contains}
use Rattle.gh_ast.specs.Plain.{Procedure, Program}
use Rattle.gh_ast.specs.Programs.{Name, variable_names}
use Rattle.gh_ast.specs.Rules.{IsTyped}
use Rattle.gh_path.specs.Conditions.{Condition, IsCondition, IsOf}
use Rattle.gh_path.specs.Terms.{Bindings}
use Rattle.gh_symb.specs.Symbolic.{symbolic_of}

-- only these names have terms
abbrev pub AreOf : List Name → Bindings → Type 0
AreOf xs b = (y : Name) (t : ℕ) → b y ≡ Some t → Contains xs y

abbrev pub AllAreOf : List Name → List Bindings → Type 0
AllAreOf xs [] = Unit {0}
AllAreOf xs (b ∷ bs) = AreOf xs b × AllAreOf xs bs

-- at the states of a condition only variables of its procedure have terms
abbrev pub OnlyVariablesHaveTerms : Type 0
OnlyVariablesHaveTerms =
    (P : Program) (proc : Procedure) (c : Condition) → IsTyped P → IsCondition P c → IsOf P c proc
    → AllAreOf (variable_names proc) (symbolic_of P proc c).bindings

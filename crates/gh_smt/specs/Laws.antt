-- The laws.
use Rattle.std.specs.Prelude.{◌≡◌, ◌↔◌, List}
use Rattle.gh_base.specs.Grounds.{Problem, IsProblem}
use Rattle.gh_base.specs.Meaning.{Interpretation}
use Rattle.gh_ast.specs.Plain.{Procedure, Program}
use Rattle.gh_ast.specs.Rules.{IsTyped}
use Rattle.gh_path.specs.Conditions.{Condition, IsCondition, IsOf}
use Rattle.gh_symb.specs.Symbolic.{symbolic_of}
use Rattle.gh_symb.specs.Formulas.{problem}
use Rattle.gh_inst.specs.Models.{IsModel}
use Rattle.gh_trace.specs.Validity.{HasCounterexample, IsConditionValid}
use Rattle.gh_smt.specs.Scripts.{IsScript, script_of}
use Rattle.gh_smt.specs.Texts.{script_text}
use Rattle.gh_smt.specs.Meaning.{IsSatisfiable}

abbrev pub HasModel : Problem → Type 0
HasModel p = (m : Interpretation) × IsModel p m

-- a script is satisfiable exactly where the clauses and all instances have a model
abbrev pub ScriptsMeanModels : Type 0
ScriptsMeanModels = (p : Problem) → IsProblem p → IsSatisfiable (script_of p) ↔ HasModel p

-- satisfiable exactly where the condition has a counterexample, unsatisfiable exactly where it is valid
pub record DecidesCondition (P : Program) (c : Condition) (script : Problem) : Type 0 where
  pub satisfiable : IsSatisfiable script ↔ HasCounterexample P c
  pub unsatisfiable : (IsSatisfiable script → ⊥) ↔ IsConditionValid P c

-- and so for each condition of which these are the clauses
abbrev pub DecidesItsConditions : Problem → Problem → Type 0
DecidesItsConditions clauses script =
    (P : Program) (proc : Procedure) (c : Condition) → IsTyped P → IsCondition P c → IsOf P c proc
    → clauses ≡ problem (symbolic_of P proc c)
    → DecidesCondition P c script

-- the script of a condition's clauses decides the condition
abbrev pub ScriptsDecide : Type 0
ScriptsDecide =
    (P : Program) (proc : Procedure) (c : Condition) → IsTyped P → IsCondition P c → IsOf P c proc
    → IsProblem (problem (symbolic_of P proc c))
    → DecidesCondition P c (script_of (problem (symbolic_of P proc c)))

-- two scripts that have one text are one
abbrev pub TextsAreOne : Type 0
TextsAreOne = (p o : Problem) → IsScript p → IsScript o → script_text p ≡ script_text o → p ≡ o

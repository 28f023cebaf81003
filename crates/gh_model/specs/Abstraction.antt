-- From counterexamples to interpretations.
use Rattle.std.specs.Prelude.{List}
use Rattle.gh_base.specs.Meaning.{Interpretation, IsCongruence}
use Rattle.gh_ast.specs.Plain.{Procedure, Program}
use Rattle.gh_ast.specs.Rules.{IsTyped}
use Rattle.gh_path.specs.Conditions.{Condition, IsCondition, IsOf}
use Rattle.gh_symb.specs.Symbolic.{symbolic_of}
use Rattle.gh_symb.specs.Formulas.{condition_formulas, problem}
use Rattle.gh_inst.specs.Violations.{AreInstancesTrue}
use Rattle.gh_inst.specs.Models.{IsModel}
use Rattle.gh_grass.specs.Truth.{AreTrue}
use Rattle.gh_trace.specs.Traces.{State}
use Rattle.gh_trace.specs.Validity.{IsCounterexample}

-- equality is a congruence, and all instances of the axioms and all formulas of the condition, which is one of the
-- procedure proc, are true
pub record Satisfies (P : Program) (proc : Procedure) (c : Condition) (m : Interpretation) : Type 0 where
  pub congruence : IsCongruence (problem (symbolic_of P proc c)).sizes m
  pub instances : AreInstancesTrue (problem (symbolic_of P proc c)).sizes m
  pub formulas : AreTrue m (condition_formulas (symbolic_of P proc c))

-- a counterexample gives an interpretation that satisfies its condition
abbrev pub TracesSatisfy : Type 0
TracesSatisfy =
    (P : Program) (proc : Procedure) (c : Condition) (x : State) (ys : List State) → IsTyped P → IsCondition P c
    → IsOf P c proc → IsCounterexample P proc c x ys →
    (m : Interpretation) × Satisfies P proc c m

-- a model of the clauses of the condition and of the axioms
abbrev pub IsModelOf : Program → Procedure → Condition → Interpretation → Type 0
IsModelOf P proc c m = IsModel (problem (symbolic_of P proc c)) m

abbrev pub TracesGiveModels : Type 0
TracesGiveModels =
    (P : Program) (proc : Procedure) (c : Condition) (x : State) (ys : List State) → IsTyped P → IsCondition P c
    → IsOf P c proc → IsCounterexample P proc c x ys →
    (m : Interpretation) × IsModelOf P proc c m

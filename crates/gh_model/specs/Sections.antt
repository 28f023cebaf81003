-- Valid sections show that conditions are valid.
use Rattle.std.specs.Prelude.{List}
use Rattle.gh_ast.specs.Plain.{Procedure, Program}
use Rattle.gh_ast.specs.Rules.{IsTyped}
use Rattle.gh_path.specs.Conditions.{Condition, IsCondition, IsOf}
use Rattle.gh_symb.specs.Symbolic.{symbolic_of}
use Rattle.gh_symb.specs.Formulas.{problem}
use Rattle.gh_trace.specs.Validity.{IsConditionValid}
use Rattle.gh_log.specs.Lines.{LogLine}
use Rattle.gh_log.specs.Sections.{IsValidSection}

-- where a section is valid for the clauses of a condition, the condition has no counterexample
abbrev pub SectionsShowValidity : Type 0
SectionsShowValidity =
    (P : Program) (proc : Procedure) (c : Condition) (lines : List LogLine) → IsTyped P → IsCondition P c
    → IsOf P c proc →
    IsValidSection (problem (symbolic_of P proc c)) lines → IsConditionValid P c

-- Which logs are valid for a program.
use Rattle.std.specs.Prelude.{List, [], ◌∷◌, ⊤}
use Rattle.gh_ast.specs.Plain.{Procedure, Program}
use Rattle.gh_ast.specs.Rules.{IsTyped}
use Rattle.gh_path.specs.Conditions.{Condition, conditions, IsOf}
use Rattle.gh_symb.specs.Symbolic.{symbolic_of}
use Rattle.gh_symb.specs.Formulas.{problem}
use Rattle.gh_trace.specs.Validity.{ListedAreValid}
use Rattle.gh_log.specs.Lines.{LogLine}
use Rattle.gh_log.specs.Sections.{IsValidSection}
use Rattle.gh_base.specs.Meaning.{Interpretation}
use Rattle.gh_model.specs.Abstraction.{IsModelOf}

-- the section is valid for the clauses of the condition
abbrev pub IsSectionOf : Program → Condition → List LogLine → Type 0
IsSectionOf P c lines = (proc : Procedure) × IsOf P c proc × IsValidSection (problem (symbolic_of P proc c)) lines

-- the sections are as many as the conditions, and each is valid for the clauses of its condition
abbrev pub AreValidSections : Program → List Condition → List (List LogLine) → Type 0
AreValidSections P [] [] = ⊤
AreValidSections P (c ∷ cs) (s ∷ ss) = IsSectionOf P c s × AreValidSections P cs ss
AreValidSections P _ _ = ⊥

-- a valid section for each condition, in order
abbrev pub IsValidLog : Program → List (List LogLine) → Type 0
IsValidLog P log = AreValidSections P (conditions P) log

-- where a log is valid for a program, all conditions are valid
abbrev pub ValidLogsShowValidity : Type 0
ValidLogsShowValidity = (P : Program) (log : List (List LogLine)) → IsTyped P → IsValidLog P log → ListedAreValid P

-- where a section is valid for a condition's clauses, these have no model
abbrev pub ValidSectionsHaveNoModel : Type 0
ValidSectionsHaveNoModel =
    (P : Program) (proc : Procedure) (c : Condition) (lines : List LogLine) (m : Interpretation)
    → IsValidSection (problem (symbolic_of P proc c)) lines → IsModelOf P proc c m → ⊥

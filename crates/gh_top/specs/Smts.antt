-- Conditions of a program as SMT-LIB scripts.
use Rattle.std.specs.Prelude.{ℕ, ◌<◌, ◌≤◌, List, length}
use Rattle.gh_ast.specs.Plain.{Procedure, Program}
use Rattle.gh_path.specs.Conditions.{Condition, conditions}
use Rattle.gh_symb.specs.Symbolic.{symbolic_of}
use Rattle.gh_symb.specs.Formulas.{problem}
use Rattle.gh_path.specs.Kept.{HoldsFor}
use Rattle.gh_base.specs.Grounds.{Problem}
use Rattle.gh_smt.specs.Scripts.{assertion_count, script_of}
use Rattle.gh_smt.specs.Laws.{DecidesCondition}
use Rattle.gh_smt.specs.Texts.{script_text}
use Rattle.gh_path.specs.declared.condition.Condition as kept
use Rattle.gh_top.specs.Lines.{unnumbered_line, script_limit_line}
use Rattle.gh_top.specs.declared.status.Status.{Status}
use Rattle.gh_top.specs.declared.status.Status.TheVariants.{Listed, TextRefused}

-- the most assertions of a script
abbrev pub most_asserted : ℕ
most_asserted = 2000000

-- how many assertions the script of a condition of the procedure proc has
abbrev pub asserted_count : Program → Procedure → Condition → ℕ
asserted_count P proc c = assertion_count (problem (symbolic_of P proc c))

abbrev pub script_for : Program → Procedure → Condition → Problem
script_for P proc c = script_of (problem (symbolic_of P proc c))

-- the script decides the condition: it is satisfiable exactly where the condition has a counterexample
abbrev pub IsDecidedByScript : Program → Procedure → Condition → Type 0
IsDecidedByScript P proc c = DecidesCondition P c (script_for P proc c)

abbrev pub smt_text : Program → Procedure → Condition → List ℕ
smt_text P proc c = script_text (script_for P proc c)

-- the answer where the program has fewer than n conditions
abbrev pub unnumbered_text : Program → ℕ → List ℕ
unnumbered_text P n = unnumbered_line n (length (conditions P))

-- the answer where the script would have too many assertions, with the place of the name of the procedure proc
abbrev pub too_long_text : Program → Procedure → Condition → List ℕ
too_long_text P proc c = script_limit_line proc.name.span (asserted_count P proc c)

-- the script of a condition, or that it is too long
pub data IsScriptReport (P : Program) (proc : Procedure) (c : Condition) : Status → List ℕ → Type 0 where
  listed : asserted_count P proc c ≤ most_asserted → IsDecidedByScript P proc c
      → IsScriptReport P proc c Listed (smt_text P proc c)
  too_long : most_asserted < asserted_count P proc c → IsScriptReport P proc c TextRefused (too_long_text P proc c)

-- the same of a condition that is kept
abbrev pub ReportsScript : Program → kept.Condition → Status → List ℕ → Type 0
ReportsScript P r status text = HoldsFor P r (λ Q proc c. IsScriptReport Q proc c status text)

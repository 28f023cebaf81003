-- The first k conditions of a program, once each is decided as valid.
use Rattle.std.specs.Prelude.{ℕ, List, take, All, Contains}
use Rattle.gh_ast.specs.Plain.{Program}
use Rattle.gh_path.specs.Conditions.{Condition, conditions}
use Rattle.gh_trace.specs.Validity.{IsConditionValid}
use Rattle.gh_log.specs.declared.lines.Section.{Section}
use Rattle.gh_log.specs.Spelled.{lines_of}
use Rattle.gh_decide.specs.Logs.{AreValidSections}
use Rattle.gh_decide.specs.Verdicts.{IsWritable}

-- the first k conditions are valid
abbrev pub AreValidUpTo : Program → ℕ → Type 0
AreValidUpTo P k = (d : Condition) → Contains (take k (conditions P)) d → IsConditionValid P d

-- the first k conditions are valid, and so are their sections, of which a log can be written
pub record AreDecided (P : Program) (k : ℕ) (sections : List Section) : Type 0 where
  pub valid : AreValidUpTo P k
  pub log : AreValidSections P (take k (conditions P)) (lines_of sections)
  pub writable : All IsWritable sections

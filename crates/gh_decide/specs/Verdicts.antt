-- What a decision of one condition answers.
use Rattle.std.specs.Prelude.{◌≡◌, ◌↔◌, ◌≤◌, All, length}
use Rattle.gh_base.specs.Grounds.{Problem}
use Rattle.gh_ast.specs.Plain.{Program}
use Rattle.gh_path.specs.Kept.{condition_of, HoldsFor}
use Rattle.gh_path.specs.declared.condition.Condition as kept
use Rattle.gh_symb.specs.Symbolic.{symbolic_of}
use Rattle.gh_symb.specs.Formulas.{problem}
use Rattle.gh_trace.specs.Kept.{drawn_of, HasNoCounterexample}
use Rattle.gh_trace.specs.Replay.{IsDrawnCounterexample}
use Rattle.gh_log.specs.declared.lines.Section.{Section}
use Rattle.gh_log.specs.Spelled.{IsSpelledLine}
use Rattle.gh_decide.specs.Logs.{IsSectionOf}
use Rattle.gh_decide.specs.declared.decide.Verdict.{Verdict}
use Rattle.gh_decide.specs.declared.decide.Verdict.TheVariants.{Valid, Refuted}

-- a log can be written of the section: it stands at the first line, its lines have numbers of 32 bits, as has the one
-- after them, and the grammar of logs of version 2 can spell them
pub record IsWritable (s : Section) : Type 0 where
  pub first : s.first ≡ 1
  pub few : length s.lines ≤ 4294967294
  pub spelled : All (IsSpelledLine 2) s.lines

-- these are the clauses of the condition that is kept
abbrev pub IsGroundOf : Program → kept.Condition → Problem → Type 0
IsGroundOf P r clauses = HoldsFor P r (λ P proc c. clauses ≡ problem (symbolic_of P proc c))

-- the condition has no counterexample, and the section is valid for its clauses
pub record IsShown (P : Program) (r : kept.Condition) (s : Section) : Type 0 where
  pub valid : HasNoCounterexample P r
  pub section : IsSectionOf P (condition_of r) s.lines
  pub writable : IsWritable s

-- the condition is valid, which the section shows; or the trace is a counterexample of it
abbrev pub IsVerdict : Program → kept.Condition → Verdict → Type 0
IsVerdict P r (Valid s) = IsShown P r s
IsVerdict P r (Refuted t) = IsDrawnCounterexample P (condition_of r) (drawn_of t)

abbrev pub IsValid : Verdict → Type 0
IsValid (Valid s) = Unit {0}
IsValid (Refuted t) = ⊥

abbrev pub IsRefuted : Verdict → Type 0
IsRefuted (Valid s) = ⊥
IsRefuted (Refuted t) = Unit {0}

-- valid exactly where there is no counterexample, and refuted exactly where that isn't so
pub record IsExact (P : Program) (r : kept.Condition) (v : Verdict) : Type 0 where
  pub valid : IsValid v ↔ HasNoCounterexample P r
  pub refuted : IsRefuted v ↔ (HasNoCounterexample P r → ⊥)

abbrev pub VerdictsAreExact : Type 0
VerdictsAreExact = (P : Program) (r : kept.Condition) (v : Verdict) → IsVerdict P r v → IsExact P r v

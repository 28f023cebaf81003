-- The answers of a session while its knowledge is kept.
use Rattle.std.specs.Prelude.{ℕ, List, Some}
use Rattle.gh_ast.specs.Plain.{Program}
use Rattle.gh_path.specs.Conditions.{Condition}
use Rattle.gh_session.specs.declared.kept.Kept.{Kept}
use Rattle.gh_session.specs.Essences.{Essence}
use Rattle.gh_session.specs.Known.{essences}
use Rattle.gh_session.specs.Places.{knowledge}
use Rattle.gh_top.specs.Checks.{IsProgramVerdict, IsCheckText}
use Rattle.gh_top.specs.Sessions.{AreAsked, IsKeptToo, CountsDecided}
use Rattle.gh_top.specs.declared.status.Status.{Status}

-- the essences that are kept
abbrev pub kept_essences : List Kept → List Essence
kept_essences kept = essences (knowledge kept)

-- the text is that of the verdict on an admitted program, and n essences were decided for it
pub record IsVerdictOn (P : Program) (old : List Kept) (n : ℕ) (u : List ℕ) (new : List Kept) : Type 0 where
  pub status : Status
  pub verdict : IsProgramVerdict P status u
  pub asked : List Condition
  pub are_asked : AreAsked P asked
  pub kept : IsKeptToo P asked (kept_essences old) n (kept_essences new)

-- the text is what `check` answers for the bytes, and n essences were decided for it
pub record IsAnswerOn (text : List ℕ) (old : List Kept) (n : ℕ) (u : List ℕ) (new : List Kept) : Type 0 where
  pub status : Status
  pub checked : IsCheckText (Some text) status u
  pub counted : CountsDecided text (kept_essences old) n (kept_essences new)

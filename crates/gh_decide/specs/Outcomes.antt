-- What the decision of all conditions of a program comes to.
use Rattle.std.specs.Prelude.{◌≡◌, All}
use Rattle.gh_ast.specs.Plain.{Program}
use Rattle.gh_trace.specs.Validity.{ListedAreValid}
use Rattle.gh_trace.specs.Refuted.{ShowsFirst}
use Rattle.gh_log.specs.declared.lines.Log.{Log}
use Rattle.gh_log.specs.Spelled.{IsSpelled, lines_of}
use Rattle.gh_decide.specs.Logs.{IsValidLog}
use Rattle.gh_decide.specs.Verdicts.{IsWritable}
use Rattle.gh_decide.specs.declared.outcome.Outcome.{Outcome}
use Rattle.gh_decide.specs.declared.outcome.Outcome.TheVariants.{Verified, Refuted}

-- all conditions are valid, and the log, which the grammar of version 2 can spell, shows it
pub record IsVerified (P : Program) (kept : Log) : Type 0 where
  pub valid : ListedAreValid P
  pub version : kept.version ≡ 2
  pub log : IsValidLog P (lines_of kept.sections.items)
  pub spelled : IsSpelled 2 (lines_of kept.sections.items)
  pub writable : All IsWritable kept.sections.items

-- all conditions are valid, or the condition of the number is the first that isn't, which the trace shows
abbrev pub IsOutcome : Program → Outcome → Type 0
IsOutcome P (Verified log) = IsVerified P log
IsOutcome P (Refuted number trace) = ShowsFirst P number trace

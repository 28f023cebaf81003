-- Concrete runs from state files: why a file is refused, and what a run from one comes to.
use Rattle.std.specs.Prelude.{◌≡◌, ℕ, ◌<◌, ◌≤◌, List, ◌++◌, length, codes, true, false, Option, Some, None}
use Rattle.std.specs.Fmt.{decimal}
use Rattle.gh_ast.specs.Plain.{Program}
use Rattle.gh_assert.specs.Stores.{listed_names}
use Rattle.gh_trace.specs.Kept.{state_of}
use Rattle.gh_trace.specs.declared.state.State.{State}
use Rattle.gh_draw.specs.Drawings.{line, state_lines}
use Rattle.gh_run.specs.StateFiles.{IsStateFile, IsFaultyLine}
use Rattle.gh_run.specs.Reports.{IsReport}
use Rattle.gh_run.specs.declared.state_file.Begin.{Begin}
use Rattle.gh_run.specs.declared.simulate.Report.{Report}
use Rattle.gh_run.specs.declared.simulate.Report.TheVariants as report
use Rattle.gh_top.specs.declared.status.Status.{Status}
use Rattle.gh_top.specs.declared.status.Status.TheVariants.{Ran, Refuted, Stopped, Unmet}

-- the longest state file that is taken
abbrev pub most_stated : ℕ
most_stated = 4194304

-- why a state file is refused: it is absent, too long, or has a line that isn't as said
pub data IsStateRefusal (P : Program) : Option (List ℕ) → List ℕ → Type 0 where
  absent : IsStateRefusal P None (line (codes "refused: state Absent"))
  too_long : {text : List ℕ} → most_stated < length text
      → IsStateRefusal P (Some text) (line (codes "refused: state TooLong"))
  faulty : {text : List ℕ} (k : ℕ) → length text ≤ most_stated → IsFaultyLine P text k
      → IsStateRefusal P (Some text) (line (codes "refused: state line " ++ decimal k))

-- the run of at most n steps from the file's state comes to the report
pub record IsRunFrom (P : Program) (bytes : Option (List ℕ)) (n : ℕ) (report : Report) : Type 0 where
  pub text : List ℕ
  pub bytes_are : bytes ≡ Some text
  pub short : length text ≤ most_stated
  pub begin : Begin
  pub file : IsStateFile P text begin
  pub comes : IsReport P begin n report

-- a line, and the two lines of a state
abbrev pub with_state : List ℕ → State → List ℕ
with_state words s = line words ++ state_lines (listed_names s.store) (state_of s)

abbrev pub unmet_text : List ℕ
unmet_text = line (codes "precondition fails")

abbrev pub stopped_text : ℕ → State → List ℕ
stopped_text k s = with_state (codes "stopped after " ++ decimal k ++ codes " steps") s

abbrev pub fault_text : ℕ → State → List ℕ
fault_text k s = with_state (codes "fault after " ++ decimal k ++ codes " steps") s

abbrev pub held_text : ℕ → State → List ℕ
held_text k s = with_state (codes "ended after " ++ decimal k ++ codes " steps: postcondition holds") s

abbrev pub failed_text : ℕ → State → List ℕ
failed_text k s = with_state (codes "ended after " ++ decimal k ++ codes " steps: postcondition fails") s

-- the status and the text of a report
pub data IsRunReport : Report → Status → List ℕ → Type 0 where
  unmet : IsRunReport report.Unmet Unmet unmet_text
  stopped : (k : ℕ) (s : State) → IsRunReport (report.Stopped k s) Stopped (stopped_text k s)
  faulted : (k : ℕ) (s : State) → IsRunReport (report.Faulted k s) Refuted (fault_text k s)
  held : (k : ℕ) (s : State) → IsRunReport (report.Ended k s true) Ran (held_text k s)
  failed : (k : ℕ) (s : State) → IsRunReport (report.Ended k s false) Refuted (failed_text k s)

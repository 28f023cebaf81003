-- Laws of state files and of reports.
use Rattle.std.specs.Prelude.{◌≡◌, ℕ, List, false}
use Rattle.gh_ast.specs.Plain.{Program}
use Rattle.gh_ast.specs.Rules.{IsTyped}
use Rattle.gh_machine.specs.Machine.{IsGood}
use Rattle.gh_trace.specs.declared.state.State.{State}
use Rattle.gh_run.specs.StateFiles.{IsStateFile, IsFaultyLine}
use Rattle.gh_run.specs.Reports.{IsReport}
use Rattle.gh_run.specs.declared.state_file.Begin.{Begin}
use Rattle.gh_run.specs.declared.simulate.Report.{Report}
use Rattle.gh_run.specs.declared.simulate.Report.TheVariants.{Faulted, Ended}

-- a run that faults, or ends outside what the procedure gives, shows that the program isn't good
pub record ReportsRefute : Type 0 where
  pub by_fault : (P : Program) (b : Begin) (n steps : ℕ) (s : State) → IsReport P b n (Faulted steps s) → IsGood P → ⊥
  pub by_end : (P : Program) (b : Begin) (n steps : ℕ) (s : State) → IsReport P b n (Ended steps s false) → IsGood P → ⊥

-- on a run of at most n steps there is at most one report
abbrev pub ReportsAreOne : Type 0
ReportsAreOne =
    (P : Program) (b : Begin) (n : ℕ) (r t : Report) → IsTyped P → IsReport P b n r → IsReport P b n t → r ≡ t

-- a text is a state file of one state, or has one first line that isn't as said
pub record StateFilesAreOne : Type 0 where
  pub state : (P : Program) (text : List ℕ) (b c : Begin) → IsTyped P → IsStateFile P text b → IsStateFile P text c
      → b ≡ c
  pub line : (P : Program) (text : List ℕ) (n m : ℕ) → IsFaultyLine P text n → IsFaultyLine P text m → n ≡ m
  pub not_both : (P : Program) (text : List ℕ) (b : Begin) (n : ℕ) → IsStateFile P text b → IsFaultyLine P text n → ⊥

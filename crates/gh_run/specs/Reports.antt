-- What a concrete run comes to.
use Rattle.std.specs.Prelude.{◌≡◌, ◌↔◌, ℕ, List, [], length, IsTrue}
use Rattle.gh_ast.specs.Plain.{Procedure, Program}
use Rattle.gh_ast.specs.Programs.{variable_names}
use Rattle.gh_assert.specs.Heaps.{Heap, Splits}
use Rattle.gh_assert.specs.Meaning.{Meaning, MeetsOneOf, HasPart}
use Rattle.gh_assert.specs.Stores.{store_of, listed_names}
use Rattle.gh_machine.specs.Configs.{config_of}
use Rattle.gh_machine.specs.declared.config.Config as kept
use Rattle.gh_machine.specs.Machine.{Config, Fault, HasEnded, EndsWell, last_of, starting}
use Rattle.gh_trace.specs.Traces.{Replaced}
use Rattle.gh_trace.specs.declared.state.State.{State}
use Rattle.gh_run.specs.StateFiles.{BeginsIn}
use Rattle.gh_run.specs.Rule.{IsConcreteRun, SomeReturns, CountsSteps}
use Rattle.gh_run.specs.declared.state_file.Begin.{Begin}
use Rattle.gh_run.specs.declared.simulate.Report.{Report}
use Rattle.gh_run.specs.declared.simulate.Report.TheVariants.{Unmet, Faulted, Ended, Stopped}

-- the procedure at its start, with the values and the heap that are given
abbrev pub begun : Procedure → Begin → Config
begun p b = starting p (store_of b.store) b.heap []

-- the configuration is that of the procedure that the state file names
abbrev pub IsAtBegin : Program → Begin → kept.Config → Type 0
IsAtBegin P b c = (proc : Procedure) → BeginsIn P b proc → config_of c ≡ begun proc b

-- the values of the variables of the topmost activation, in their order, and the heap
pub record IsStateOf (c : Config) (s : State) : Type 0 where
  pub lists : listed_names s.store ≡ variable_names c.top.procedure
  pub store : store_of s.store ≡ c.top.store
  pub heap : s.heap ≡ c.heap

-- the run, how many of its steps count, and the state at its end
pub record ComesTo (P : Program) (c : Config) (n : ℕ) (ds : List Config) (steps : ℕ) (s : State) : Type 0 where
  pub run : IsConcreteRun P c n ds
  pub counted : CountsSteps c ds steps
  pub state : IsStateOf (last_of c ds) s

-- the run makes n steps, and none of them is the return of the first activation
abbrev pub IsStopped : Config → ℕ → List Config → Type 0
IsStopped c n ds = (length ds ≡ n) × (SomeReturns c ds → ⊥)

-- the last heap is the cells outside the footprint of what the procedure needs, as they were, and a heap that meets
-- what the procedure gives
pub record IsMet (p : Procedure) (c d : Config) : Type 0 where
  pub part : Heap
  pub frame : Heap
  pub splits : Splits c.heap part frame
  pub needs : Meaning p.needs c.top.store part
  pub gives : EndsWell p frame d

-- the part that meets what the procedure needs has given way to one that meets what it gives, and the rest stayed
abbrev pub HasGivenWay : Procedure → Begin → State → Type 0
HasGivenWay p b s = Replaced p.needs (store_of b.store) b.heap (MeetsOneOf p.gives (store_of s.store)) s.heap

-- some part of the first heap meets what the procedure needs
abbrev pub IsCalledWell : Procedure → Config → Type 0
IsCalledWell p c = HasPart p.needs c.top.store c.heap

abbrev pub IsReportOn : Program → Procedure → Config → ℕ → Report → Type 0
IsReportOn P proc c n Unmet = IsCalledWell proc c → ⊥
IsReportOn P proc c n (Stopped steps s) =
    IsCalledWell proc c × (ds : List Config) × ComesTo P c n ds steps s × IsStopped c n ds
IsReportOn P proc c n (Faulted steps s) =
    IsCalledWell proc c × (ds : List Config) × ComesTo P c n ds steps s × (IsStopped c n ds → ⊥) × Fault (last_of c ds)
IsReportOn P proc c n (Ended steps s met) =
    IsCalledWell proc c × (ds : List Config) × ComesTo P c n ds steps s × (IsStopped c n ds → ⊥)
    × HasEnded (last_of c ds) × (IsTrue met ↔ IsMet proc c (last_of c ds))

-- the report on at most n steps
abbrev pub IsReport : Program → Begin → ℕ → Report → Type 0
IsReport P b n report = (proc : Procedure) × BeginsIn P b proc × IsReportOn P proc (begun proc b) n report

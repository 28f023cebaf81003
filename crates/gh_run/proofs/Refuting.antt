-- A run that faults, or ends outside what the procedure gives, is a run that no good program has.
use Rattle.std.specs.Prelude.{ℕ, List, [], ◌∷◌, Contains, false, IsTrue}
use Rattle.gh_ast.specs.Plain.{Procedure, Program}
use Rattle.gh_ast.proofs.Lists.{member_first, member_later}
use Rattle.gh_assert.specs.Stores.{store_of}
use Rattle.gh_machine.specs.Machine.{Config, IsGood, IsGoodRun, last_of}
use Rattle.gh_trace.specs.declared.state.State.{State}
use Rattle.gh_run.specs.StateFiles.{BeginsIn}
use Rattle.gh_run.specs.Reports.{begun, ComesTo, IsCalledWell, IsMet, IsReport}
use Rattle.gh_run.specs.Laws.{ReportsRefute}
use Rattle.gh_run.specs.declared.state_file.Begin.{Begin}
use Rattle.gh_run.specs.declared.simulate.Report.TheVariants.{Faulted, Ended}
use Rattle.gh_run.proofs.Leading.{plain_run}
use Rattle.gh_run.proofs.Procedures.{member_at}

last_there : (c : Config) (ds : List Config) → Contains (c ∷ ds) (last_of c ds)
last_there c [] = member_first c []
last_there c (d ∷ ds) = member_later c (last_of d ds) (d ∷ ds) (last_there d ds)

-- the run is good, beside what lies outside the footprint
good_run : (P : Program) (b : Begin) (proc : Procedure) (n k : ℕ) (s : State) (ds : List Config) → IsGood P
    → BeginsIn P b proc → (well : IsCalledWell proc (begun proc b)) → ComesTo P (begun proc b) n ds k s
    → IsGoodRun proc well.1 (begun proc b) ds
good_run P b proc n k s ds good begins well comes =
    good proc (member_at P b.procedure proc begins.numbered) (store_of b.store) b.heap well.0 well.1 well.2 well.3 ds
    (plain_run P (begun proc b) ds comes.run.ruled)

by_fault : (P : Program) (b : Begin) (n k : ℕ) (s : State) → IsReport P b n (Faulted k s) → IsGood P → ⊥
by_fault P b n k s (proc, begins, (well, ds, comes, goes, fault)) good =
    (good_run P b proc n k s ds good begins well comes).never_faults (last_of (begun proc b) ds)
    (last_there (begun proc b) ds) fault

by_end : (P : Program) (b : Begin) (n k : ℕ) (s : State) → IsReport P b n (Ended k s false) → IsGood P → ⊥
by_end P b n k s (proc, begins, (well, ds, comes, goes, ended, tells)) good =
    let met : IsMet proc (begun proc b) (last_of (begun proc b) ds) = record {
      part = well.0;
      frame = well.1;
      splits = well.2;
      needs = well.3;
      gives = (good_run P b proc n k s ds good begins well comes).ends_well ended;
    } in
    let wrong : IsTrue false = tells.1 met in
    absurd cc

pub reports_refute : ReportsRefute
reports_refute = record { by_fault = by_fault; by_end = by_end }

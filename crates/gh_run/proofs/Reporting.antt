-- From where a run halts to its report.
use Rattle.std.specs.Prelude.{◌↔◌, ℕ, List, [], ◌++◌, ◌∷◌, Bool, IsTrue}
use Rattle.std.proofs.Common.{sym, ◌∙◌, subst, inl, inr, arith}
use Rattle.gh_ast.specs.Plain.{Procedure, Program}
use Rattle.gh_assert.specs.Heaps.{Heap, Splits}
use Rattle.gh_assert.specs.Meaning.{MeetsOneOf}
use Rattle.gh_assert.specs.Stores.{store_of}
use Rattle.gh_machine.specs.Machine as machine
use Rattle.gh_machine.specs.Machine.{Config, HasEnded}
use Rattle.gh_machine.proofs.Faults.{faults_stop, ends_stop}
use Rattle.gh_trace.specs.Traces.{Replaced}
use Rattle.gh_trace.specs.declared.state.State.{State}
use Rattle.gh_run.specs.Halts.{Leads, IsHalted}
use Rattle.gh_run.specs.Reports.{IsStateOf, ComesTo, IsStopped, IsMet, IsCalledWell, IsReportOn}
use Rattle.gh_run.specs.declared.rule.Halt.TheVariants as halt
use Rattle.gh_run.specs.declared.simulate.Report.TheVariants.{Faulted, Ended, Stopped}
use Rattle.gh_run.proofs.Leading.{plain_step, Halts, halts_at, return_ends, halts_returned, returned_returns}

-- the state at the end of a run
comes : (P : Program) (c : Config) (n k : ℕ) (d : Config) (run : List Config) (s : State) → Halts P c n k d run
    → IsStateOf d s → ComesTo P c n run k s
comes P c n k d run s h is =
    record { run = h.run_is; counted = h.counted; state = subst (λ x. IsStateOf x s) (sym h.last) is }

pub stopped : (P : Program) (proc : Procedure) (c : Config) (n k : ℕ) (d : Config) (s : State) → IsCalledWell proc c
    → IsHalted P c n halt.Stopped k d → IsStateOf d s → IsReportOn P proc c n (Stopped k s)
stopped P proc c n k d s well (same, l) is =
    let at : Leads P c k d = subst (λ m. Leads P c m d) (sym same) l in
    let h = halts_at P c n k d at (omega (arith, same)) (λ less e st. absurd (omega (arith, less, same))) in
    (well, at.run, comes P c n k d at.run s h is, (at.count ∙ same, at.goes_on))

pub faulted : (P : Program) (proc : Procedure) (c : Config) (n k : ℕ) (d : Config) (s : State) → IsCalledWell proc c
    → IsHalted P c n halt.Faulted k d → IsStateOf d s → IsReportOn P proc c n (Faulted k s)
faulted P proc c n k d s well (less, l, fault) is =
    let h = halts_at P c n k d l (omega (arith, less)) (λ _ e st. faults_stop P d e fault (plain_step P d e st)) in (
      well,
      l.run,
      comes P c n k d l.run s h is,
      λ stop. absurd (omega (arith, less, stop.0, l.count)),
      subst machine.Fault (sym l.last) fault,
    )

-- what is replaced, and what is met
pub met_where : (p : Procedure) (c d : Config) (s : State) → IsStateOf d s
    → Replaced p.needs c.top.store c.heap (MeetsOneOf p.gives (store_of s.store)) s.heap ↔ IsMet p c d
met_where p c d s is = (there, back)
  where
    there : Replaced p.needs c.top.store c.heap (MeetsOneOf p.gives (store_of s.store)) s.heap → IsMet p c d
    there r = record {
      part = r.part;
      frame = r.frame;
      splits = r.splits;
      needs = r.met;
      gives = subst (λ t. (h : Heap) × Splits d.heap h r.frame × MeetsOneOf p.gives t h) is.store
          (subst (λ k. (h : Heap) × Splits k h r.frame × MeetsOneOf p.gives (store_of s.store) h) is.heap
          (r.other, r.joins, r.meets));
    }

    back : IsMet p c d → Replaced p.needs c.top.store c.heap (MeetsOneOf p.gives (store_of s.store)) s.heap
    back m =
        let at : (h : Heap) × Splits s.heap h m.frame × MeetsOneOf p.gives (store_of s.store) h =
        subst (λ t. (h : Heap) × Splits s.heap h m.frame × MeetsOneOf p.gives t h) (sym is.store)
        (subst (λ k. (h : Heap) × Splits k h m.frame × MeetsOneOf p.gives d.top.store h) (sym is.heap) m.gives) in
        record {
          part = m.part;
          frame = m.frame;
          other = at.0;
          splits = m.splits;
          met = m.needs;
          joins = at.1;
          meets = at.2;
        }

ended_at : (P : Program) (proc : Procedure) (c : Config) (n k : ℕ) (d : Config) (run : List Config) (s : State)
    (met : Bool) → IsCalledWell proc c → Halts P c n k d run → (IsStopped c n run → ⊥) → HasEnded d → IsStateOf d s
    → IsTrue met ↔ Replaced proc.needs c.top.store c.heap (MeetsOneOf proc.gives (store_of s.store)) s.heap
    → IsReportOn P proc c n (Ended k s met)
ended_at P proc c n k d run s met well h not_stopped ended is tells =
    let where_met = met_where proc c d s is in
    let told : IsTrue met ↔ IsMet proc c d = (λ t. where_met.0 (tells.0 t), λ m. tells.1 (where_met.1 m)) in (
      well,
      run,
      comes P c n k d run s h is,
      not_stopped,
      subst HasEnded (sym h.last) ended,
      subst (λ x. IsTrue met ↔ IsMet proc c x) (sym h.last) told,
    )

pub ended : (P : Program) (proc : Procedure) (c : Config) (n k : ℕ) (d : Config) (s : State) (met : Bool)
    → IsCalledWell proc c → IsHalted P c n halt.Ended k d → IsStateOf d s
    → IsTrue met ↔ Replaced proc.needs c.top.store c.heap (MeetsOneOf proc.gives (store_of s.store)) s.heap
    → IsReportOn P proc c n (Ended k s met)
ended P proc c n k d s met well (less, inl (l, at_end)) is tells =
    let h = halts_at P c n k d l (omega (arith, less)) (λ _ e st. ends_stop P d e at_end (plain_step P d e st)) in
    ended_at P proc c n k d l.run s met well h (λ stop. absurd (omega (arith, less, stop.0, l.count))) at_end is tells
ended P proc c n k d s met well (less, inr (e, l, last, st)) is tells =
    let h = halts_returned P c n k d e l last st less in
    ended_at P proc c n k d (l.run ++ d ∷ []) s met well h (λ stop. stop.1 (returned_returns P c k e d l last))
    (return_ends P c k d (e, l, last, st)) is tells

-- From a state file to what is answered for it.
use Rattle.std.proofs.Common.{◌≡◌, ℕ, ◌<◌, ◌≤◌, List, length, Option, Some, None, sym, subst, ap, ◌∙◌}
use Rattle.std.specs.Prelude.{codes, ◌++◌, Bool, true, false}
use Rattle.std.specs.Fmt.{decimal}
use Rattle.gh_ast.specs.Plain.{Program}
use Rattle.gh_draw.specs.Drawings.{line}
use Rattle.gh_run.specs.StateFiles.{IsStateFile, IsFaultyLine}
use Rattle.gh_run.specs.Reports.{IsReport}
use Rattle.gh_run.specs.declared.state_file.Begin.{Begin}
use Rattle.gh_run.specs.declared.simulate.Report.{Report}
use Rattle.gh_run.specs.declared.simulate.Report.TheVariants as report
use Rattle.gh_trace.specs.declared.state.State.{State}
use Rattle.gh_top.specs.Headline.{Asks, Answer, Files, run_refused, run_unmet, run_stopped, run_faulted, run_held}
use Rattle.gh_top.specs.Headline.{run_failed}
use Rattle.gh_top.specs.Replies.{RepliesOn}
use Rattle.gh_top.specs.Runs.{most_stated, IsStateRefusal, absent, too_long, faulty, IsRunFrom, IsRunReport, unmet}
use Rattle.gh_top.specs.Runs.{stopped, faulted, held, failed, with_state, unmet_text, stopped_text, fault_text}
use Rattle.gh_top.specs.Runs.{held_text, failed_text}
use Rattle.gh_top.specs.declared.words.Request.TheVariants.{Run}
use Rattle.gh_top.specs.declared.status.Status.{Status}
use Rattle.gh_top.specs.declared.status.Status.TheVariants.{Ran, Refuted, LogRefused, Stopped, Unmet}

-- a refused state file, where the file has these bytes
state_refused : (P : Program) (bytes : Option (List ℕ)) (t u : List ℕ) (s : Status) (n : ℕ) → IsStateRefusal P bytes t
    → s ≡ LogRefused → u ≡ t → (file name : List ℕ) → RepliesOn (Run file name n) P bytes s u
state_refused P bytes t u s n why a b file name words files asks here =
    rw (a, b) (run_refused asks (subst (λ o. IsStateRefusal P o t) (sym here) why))

pub state_absent : (P : Program) (bytes : Option (List ℕ)) (s : Status) (u : List ℕ) (n : ℕ) → bytes ≡ None
    → s ≡ LogRefused → u ≡ line (codes "refused: state Absent") → (file name : List ℕ)
    → RepliesOn (Run file name n) P bytes s u
state_absent P bytes s u n none a b =
    state_refused P bytes _ u s n
    (subst (λ o. IsStateRefusal P o (line (codes "refused: state Absent"))) (sym none) absent) a b

pub state_long : (m : ℕ) (P : Program) (bytes : Option (List ℕ)) (s : Status) (u : List ℕ) (n : ℕ) → m ≡ most_stated
    → ((text : List ℕ) × (bytes ≡ Some text) × (m < length text)) → s ≡ LogRefused
    → u ≡ line (codes "refused: state TooLong") → (file name : List ℕ) → RepliesOn (Run file name n) P bytes s u
state_long m P bytes s u n e (text, is, long) a b =
    state_refused P bytes _ u s n
    (subst (λ o. IsStateRefusal P o (line (codes "refused: state TooLong"))) (sym is)
    (too_long (subst (λ k. k < length text) e long))) a b

pub state_faulty : (P : Program) (text : List ℕ) (k : ℕ) (s : Status) (u : List ℕ) (n : ℕ) → length text ≤ most_stated
    → IsFaultyLine P text k → s ≡ LogRefused → u ≡ line (codes "refused: state line " ++ decimal k)
    → (file name : List ℕ) → RepliesOn (Run file name n) P (Some text) s u
state_faulty P text k s u n short why a b = state_refused P (Some text) _ u s n (faulty k short why) a b

answered : (P : Program) (words : List (List ℕ)) (files : Files) (file name : List ℕ) (n : ℕ) (r : Report) (s : Status)
    (u : List ℕ) → Asks words files (Run file name n) P → IsRunFrom P (files 2) n r → IsRunReport r s u
    → Answer words files s u
answered P words files file name n r s u asks from unmet = run_unmet asks from
answered P words files file name n r s u asks from (stopped k x) = run_stopped k x asks from
answered P words files file name n r s u asks from (faulted k x) = run_faulted k x asks from
answered P words files file name n r s u asks from (held k x) = run_held k x asks from
answered P words files file name n r s u asks from (failed k x) = run_failed k x asks from

pub run_told : (P : Program) (text : List ℕ) (b : Begin) (n : ℕ) (r : Report) (s : Status) (u : List ℕ)
    → length text ≤ most_stated → IsStateFile P text b → IsReport P b n r → IsRunReport r s u
    → (file name : List ℕ) → RepliesOn (Run file name n) P (Some text) s u
run_told P text b n r s u short file comes tells f name words files asks here =
    answered P words files f name n r s u asks
    (record { text = text; bytes_are = here; short = short; begin = b; file = file; comes = comes }) tells

-- a report that was written

reported : (r q : Report) (p s : Status) (t u : List ℕ) → IsRunReport r p t → q ≡ r → s ≡ p → u ≡ t → IsRunReport q s u
reported r q p s t u is e a b = rw (e, a, b) is

pub unmet_told : (q : Report) (s : Status) (u : List ℕ) → q ≡ report.Unmet → s ≡ Unmet → u ≡ unmet_text
    → IsRunReport q s u
unmet_told q s u e a b = reported report.Unmet q Unmet s unmet_text u unmet e a b

pub stopped_told : (q : Report) (k : ℕ) (x : State) (words : List ℕ) (s : Status) (u : List ℕ) → q ≡ report.Stopped k x
    → words ≡ codes "stopped after " ++ decimal k ++ codes " steps" → s ≡ Stopped → u ≡ with_state words x
    → IsRunReport q s u
stopped_told q k x words s u e w a b =
    reported (report.Stopped k x) q Stopped s (stopped_text k x) u (stopped k x) e a (b ∙ ap (λ z. with_state z x) w)

pub faulted_told : (q : Report) (k : ℕ) (x : State) (words : List ℕ) (s : Status) (u : List ℕ) → q ≡ report.Faulted k x
    → words ≡ codes "fault after " ++ decimal k ++ codes " steps" → s ≡ Refuted → u ≡ with_state words x
    → IsRunReport q s u
faulted_told q k x words s u e w a b =
    reported (report.Faulted k x) q Refuted s (fault_text k x) u (faulted k x) e a (b ∙ ap (λ z. with_state z x) w)

pub held_told : (k : ℕ) (x : State) (met : Bool) (words : List ℕ) (s : Status) (u : List ℕ) → met ≡ true
    → words ≡ codes "ended after " ++ decimal k ++ codes " steps: postcondition holds" → s ≡ Ran
    → u ≡ with_state words x
    → IsRunReport (report.Ended k x met) s u
held_told k x met words s u e w a b =
    reported (report.Ended k x true) (report.Ended k x met) Ran s (held_text k x) u (held k x) (ap (report.Ended k x) e)
    a (b ∙ ap (λ z. with_state z x) w)

pub failed_told : (k : ℕ) (x : State) (met : Bool) (words : List ℕ) (s : Status) (u : List ℕ) → met ≡ false
    → words ≡ codes "ended after " ++ decimal k ++ codes " steps: postcondition fails" → s ≡ Refuted
    → u ≡ with_state words x
    → IsRunReport (report.Ended k x met) s u
failed_told k x met words s u e w a b =
    reported (report.Ended k x false) (report.Ended k x met) Refuted s (failed_text k x) u (failed k x)
    (ap (report.Ended k x) e) a (b ∙ ap (λ z. with_state z x) w)

-- Where a run fails, some condition of its program isn't valid.
use Rattle.std.proofs.Common.{◌≡◌, ℕ, List, sym, subst}
use Rattle.gh_ast.specs.Plain.{Program}
use Rattle.gh_decide.proofs.Rules.{typed_is_good}
use Rattle.gh_machine.specs.Machine.{IsGood}
use Rattle.gh_run.proofs.Refuting.{reports_refute}
use Rattle.gh_top.proofs.HeadlineLemmas.{one_request, one_program_asked}
use Rattle.gh_top.specs.Headline.{Files, Asks, Answer, usage, refused, check_verified, check_refuted}
use Rattle.gh_top.specs.Headline.{log_verified, log_refuted, recheck_refused, recheck_verified, paths_listed}
use Rattle.gh_top.specs.Headline.{replay_refused, replay_refuted, smallest_verified, smallest_refuted, stress_verified}
use Rattle.gh_top.specs.Headline.{stress_refuted, smt_listed, smt_no_condition, smt_too_long, run_refused, run_unmet}
use Rattle.gh_top.specs.Headline.{run_stopped, run_faulted, run_held, run_failed, session_refused, session_listed}
use Rattle.gh_top.specs.Headline.{entail_refused, entail_verified, entail_refuted}
use Rattle.gh_top.specs.declared.status.Status.{Status}
use Rattle.gh_top.specs.declared.status.Status.TheVariants.{Refuted}
use Rattle.gh_top.specs.declared.words.Request.{Request}
use Rattle.gh_top.specs.declared.words.Request.TheVariants.{Check, Log, Replay, Smallest, Stress, Run, Entail}
use Rattle.gh_trace.specs.Validity.{ListedAreValid}

-- where two requests are asked of the same words, and the conditions of the second program are valid, the first is good
is_good : (words : List (List ℕ)) (files : Files) (q r : Request) (Q P : Program) → Asks words files q Q
    → Asks words files r P → ListedAreValid P → IsGood Q
is_good words files q r Q P a b v =
    typed_is_good Q a.accepted.admitted.typed
    (subst ListedAreValid (sym (one_program_asked words files q r Q P a b)) v)

pub failed_run : (words : List (List ℕ)) (files : Files) (s : Status) (u f x : List ℕ) (n : ℕ) (P : Program)
    → Asks words files (Run f x n) P → Answer words files s u → s ≡ Refuted → ListedAreValid P → ⊥
failed_run words files s u f x n P b (usage h) e v = absurd cc
failed_run words files s u f x n P b (refused r a on h) e v = absurd cc
failed_run words files s u f x n P b (check_verified a h) e v = absurd cc
failed_run words files s u f x n P b (check_refuted {f = g} a h) e v =
    let same : Check g ≡ Run f x n = one_request words (Check g) (Run f x n) a.request b.request in absurd cc
failed_run words files s u f x n P b (log_verified log a h l spelled) e v = absurd cc
failed_run words files s u f x n P b (log_refuted {f = g} a h) e v =
    let same : Log g ≡ Run f x n = one_request words (Log g) (Run f x n) a.request b.request in absurd cc
failed_run words files s u f x n P b (recheck_refused a h) e v = absurd cc
failed_run words files s u f x n P b (recheck_verified a h) e v = absurd cc
failed_run words files s u f x n P b (paths_listed a) e v = absurd cc
failed_run words files s u f x n P b (replay_refused a h) e v = absurd cc
failed_run words files s u f x n P b (replay_refuted {f = g} {d = d} a h) e v =
    let same : Replay g d ≡ Run f x n = one_request words (Replay g d) (Run f x n) a.request b.request in absurd cc
failed_run words files s u f x n P b (smallest_verified a h) e v = absurd cc
failed_run words files s u f x n P b (smallest_refuted {f = g} a h) e v =
    let same : Smallest g ≡ Run f x n = one_request words (Smallest g) (Run f x n) a.request b.request in absurd cc
failed_run words files s u f x n P b (stress_verified a h) e v = absurd cc
failed_run words files s u f x n P b (stress_refuted {n = m} a h) e v =
    let same : Stress m ≡ Run f x n = one_request words (Stress m) (Run f x n) a.request b.request in absurd cc
failed_run words files s u f x n P b (smt_listed proc c a at of few decides) e v = absurd cc
failed_run words files s u f x n P b (smt_no_condition a past) e v = absurd cc
failed_run words files s u f x n P b (smt_too_long proc c a at of many) e v = absurd cc
failed_run words files s u f x n P b (run_refused a why) e v = absurd cc
failed_run words files s u f x n P b (run_unmet a from) e v = absurd cc
failed_run words files s u f x n P b (run_stopped k t a from) e v = absurd cc
failed_run words files s u f x n P b (run_faulted {f = g} {x = y} {n = m} {P = Q} k t a from) e v =
    reports_refute.by_fault Q from.begin m k t from.comes (is_good words files (Run g y m) (Run f x n) Q P a b v)
failed_run words files s u f x n P b (run_held k t a from) e v = absurd cc
failed_run words files s u f x n P b (run_failed {f = g} {x = y} {n = m} {P = Q} k t a from) e v =
    reports_refute.by_end Q from.begin m k t from.comes (is_good words files (Run g y m) (Run f x n) Q P a b v)
failed_run words files s u f x n P b (session_refused r h) e v = absurd cc
failed_run words files s u f x n P b (session_listed r h) e v = absurd cc
failed_run words files s u f x n P b (entail_refused w r h) e v = absurd cc
failed_run words files s u f x n P b (entail_verified r h t) e v = absurd cc
failed_run words files s u f x n P b (entail_refuted {f = g} r h t) e v =
    let same : Entail g ≡ Run f x n = one_request words (Entail g) (Run f x n) r b.request in absurd cc

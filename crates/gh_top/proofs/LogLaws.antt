-- What `log` writes is taken by `recheck`.
use Rattle.std.proofs.Common.{◌≡◌, ℕ, List, refl, subst}
use Rattle.gh_ast.specs.Plain.{Program}
use Rattle.gh_log.specs.Lines.{LogLine}
use Rattle.gh_log.specs.Spelled.{IsSpelled}
use Rattle.gh_log.specs.Texts.{log_text}
use Rattle.gh_decide.specs.Logs.{IsValidLog}
use Rattle.gh_top.specs.Headline.{Files, Asks, Answer, usage, refused, check_verified, check_refuted, log_verified}
use Rattle.gh_top.specs.Headline.{log_refuted, recheck_refused, recheck_verified, paths_listed, replay_refused}
use Rattle.gh_top.specs.Headline.{replay_refuted, smallest_verified, smallest_refuted, stress_verified, stress_refuted}
use Rattle.gh_top.specs.Headline.{smt_listed, smt_no_condition, smt_too_long, run_refused, run_unmet, run_stopped}
use Rattle.gh_top.specs.Headline.{run_faulted, run_held, run_failed, session_refused, session_listed, entail_refused}
use Rattle.gh_top.specs.Headline.{entail_verified, entail_refuted}
use Rattle.gh_top.specs.Laws.{LogsAreRechecked}
use Rattle.gh_top.specs.Words.{IsRequest}
use Rattle.gh_top.specs.declared.words.Request.TheVariants.{Check, Log, Recheck, Smallest, Stress, Entail}
use Rattle.gh_top.specs.declared.status.Status.{Status}
use Rattle.gh_top.specs.declared.status.Status.TheVariants.{Verified}
use Rattle.gh_top.proofs.HeadlineLemmas.{one_request, one_program_asked}

-- the text is that of a log which is valid for the program
record IsValidText (P : Program) (u : List ℕ) : Type 0 where
  pub log : List (List LogLine)
  pub valid : IsValidLog P log
  pub spelled : IsSpelled 2 log
  pub text_is : u ≡ log_text 2 log

no_check : (words : List (List ℕ)) (f g : List ℕ) → IsRequest words (Log f) → IsRequest words (Check g) → ⊥
no_check words f g a b = let same = one_request words (Log f) (Check g) a b in absurd cc

no_recheck : (words : List (List ℕ)) (f g l : List ℕ) → IsRequest words (Log f) → IsRequest words (Recheck g l) → ⊥
no_recheck words f g l a b = let same = one_request words (Log f) (Recheck g l) a b in absurd cc

no_smallest : (words : List (List ℕ)) (f g : List ℕ) → IsRequest words (Log f) → IsRequest words (Smallest g) → ⊥
no_smallest words f g a b = let same = one_request words (Log f) (Smallest g) a b in absurd cc

no_stress : (words : List (List ℕ)) (f : List ℕ) (n : ℕ) → IsRequest words (Log f) → IsRequest words (Stress n) → ⊥
no_stress words f n a b = let same = one_request words (Log f) (Stress n) a b in absurd cc

no_entail : (words : List (List ℕ)) (f g : List ℕ) → IsRequest words (Log f) → IsRequest words (Entail g) → ⊥
no_entail words f g a b = let same = one_request words (Log f) (Entail g) a b in absurd cc

valid_text : (words : List (List ℕ)) (files : Files) (f : List ℕ) (s : Status) (u : List ℕ) (P : Program)
    → Asks words files (Log f) P → Answer words files s u → s ≡ Verified → IsValidText P u
valid_text words files f s u P b (usage h) e = absurd cc
valid_text words files f s u P b (refused x a on h) e = absurd cc
valid_text words files f s u P b (check_verified a v) e = absurd (no_check words f _ b.request a.request)
valid_text words files f s u P b (check_refuted a r) e = absurd cc
valid_text words files f s u P b (log_verified {P = Q} log a v l spelled) e =
    let same : Q ≡ P = one_program_asked words files (Log _) (Log f) Q P a b in
    record { log = log; valid = subst (λ R. IsValidLog R log) same l; spelled = spelled; text_is = refl }
valid_text words files f s u P b (log_refuted a r) e = absurd cc
valid_text words files f s u P b (recheck_refused a w) e = absurd cc
valid_text words files f s u P b (recheck_verified a v) e = absurd (no_recheck words f _ _ b.request a.request)
valid_text words files f s u P b (paths_listed a) e = absurd cc
valid_text words files f s u P b (replay_refused a w) e = absurd cc
valid_text words files f s u P b (replay_refuted a r) e = absurd cc
valid_text words files f s u P b (smallest_verified a v) e = absurd (no_smallest words f _ b.request a.request)
valid_text words files f s u P b (smallest_refuted a r) e = absurd cc
valid_text words files f s u P b (stress_verified a v) e = absurd (no_stress words f _ b.request a.request)
valid_text words files f s u P b (stress_refuted a r) e = absurd cc
valid_text words files f s u P b (smt_listed proc c a at of few decides) e = absurd cc
valid_text words files f s u P b (smt_no_condition a past) e = absurd cc
valid_text words files f s u P b (smt_too_long proc c a at of many) e = absurd cc
valid_text words files f s u P b (run_refused a why) e = absurd cc
valid_text words files f s u P b (run_unmet a from) e = absurd cc
valid_text words files f s u P b (run_stopped k x a from) e = absurd cc
valid_text words files f s u P b (run_faulted k x a from) e = absurd cc
valid_text words files f s u P b (run_held k x a from) e = absurd cc
valid_text words files f s u P b (run_failed k x a from) e = absurd cc
valid_text words files f s u P b (entail_refused x a h) e = absurd cc
valid_text words files f s u P b (entail_verified a proc v) e = absurd (no_entail words f _ b.request a)
valid_text words files f s u P b (entail_refuted a proc r) e = absurd cc
valid_text words files f s u P b (session_refused a w) e = absurd cc
valid_text words files f s u P b (session_listed a w) e = absurd cc

pub logs_are_rechecked : LogsAreRechecked
logs_are_rechecked words others files f g l u P asks answer again bytes short =
    let v = valid_text words files f Verified u P asks answer refl in
    recheck_verified again (record {
      text = u;
      bytes_are = bytes;
      log = v.log;
      spelled = record { short = short; version = 2; text_is = v.text_is; spelled = v.spelled };
      valid = v.valid;
    })

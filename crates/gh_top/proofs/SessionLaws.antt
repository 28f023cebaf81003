-- Each answer of a session is one of `check`.
use Rattle.std.proofs.Common.{◌≡◌, ℕ, List, refl}
use Rattle.gh_session.specs.Essences.{Essence}
use Rattle.gh_top.specs.Headline.{Files, Answer, usage, refused, check_verified, check_refuted, log_verified}
use Rattle.gh_top.specs.Headline.{log_refuted, recheck_refused, recheck_verified, paths_listed, replay_refused}
use Rattle.gh_top.specs.Headline.{replay_refuted, smallest_verified, smallest_refuted, stress_verified, stress_refuted}
use Rattle.gh_top.specs.Headline.{smt_listed, smt_no_condition, smt_too_long, run_refused, run_unmet, run_stopped}
use Rattle.gh_top.specs.Headline.{run_faulted, run_held, run_failed, session_refused, session_listed, entail_refused}
use Rattle.gh_top.specs.Headline.{entail_verified, entail_refuted}
use Rattle.gh_top.specs.Laws as laws
use Rattle.gh_top.specs.Laws.{SessionAnswersAreChecks, AreCheckAnswers, IsMadeOfChecks}
use Rattle.gh_top.specs.Sessions.{AreAnswers, no_more, one_more}
use Rattle.gh_top.specs.Words.{IsRequest}
use Rattle.gh_top.specs.declared.words.Request.TheVariants.{Paths, Smt, Session}
use Rattle.gh_top.specs.declared.status.Status.{Status}
use Rattle.gh_top.specs.declared.status.Status.TheVariants.{Listed}
use Rattle.gh_top.proofs.HeadlineLemmas.{check_answers, one_request}

are_checks : (j : ℕ) (kept : List Essence) (texts : List (List ℕ)) (u : List ℕ) → AreAnswers j kept texts u
    → AreCheckAnswers j texts u
are_checks j kept texts u no_more = laws.no_more
are_checks j kept texts u (one_more {n = n} {u = v} {s = s} checks counted rest) =
    laws.one_more n s (λ words files f asks bytes. check_answers words files f s v asks (rw bytes checks))
    (are_checks _ _ _ _ rest)

no_paths : (words : List (List ℕ)) (f g : List ℕ) → IsRequest words (Session f) → IsRequest words (Paths g) → ⊥
no_paths words f g a b = let same = one_request words (Session f) (Paths g) a b in absurd cc

no_script : (words : List (List ℕ)) (f g : List ℕ) (n : ℕ) → IsRequest words (Session f) → IsRequest words (Smt g n) → ⊥
no_script words f g n a b = let same = one_request words (Session f) (Smt g n) a b in absurd cc

made_of : (words : List (List ℕ)) (files : Files) (f : List ℕ) (s : Status) (u : List ℕ) → IsRequest words (Session f)
    → Answer words files s u → s ≡ Listed → IsMadeOfChecks (files 1) u
made_of words files f s u asks (usage h) e = absurd cc
made_of words files f s u asks (refused x a on h) e = absurd cc
made_of words files f s u asks (check_verified a v) e = absurd cc
made_of words files f s u asks (check_refuted a r) e = absurd cc
made_of words files f s u asks (log_verified log a v l spelled) e = absurd cc
made_of words files f s u asks (log_refuted a r) e = absurd cc
made_of words files f s u asks (recheck_refused a w) e = absurd cc
made_of words files f s u asks (recheck_verified a v) e = absurd cc
made_of words files f s u asks (paths_listed a) e = absurd (no_paths words f _ asks a.request)
made_of words files f s u asks (replay_refused a w) e = absurd cc
made_of words files f s u asks (replay_refuted a r) e = absurd cc
made_of words files f s u asks (smallest_verified a v) e = absurd cc
made_of words files f s u asks (smallest_refuted a r) e = absurd cc
made_of words files f s u asks (stress_verified a v) e = absurd cc
made_of words files f s u asks (stress_refuted a r) e = absurd cc
made_of words files f s u asks (smt_listed p c a at of few decides) e = absurd (no_script words f _ _ asks a.request)
made_of words files f s u asks (smt_no_condition a past) e = absurd cc
made_of words files f s u asks (smt_too_long p c a at of many) e = absurd cc
made_of words files f s u asks (run_refused a why) e = absurd cc
made_of words files f s u asks (run_unmet a from) e = absurd cc
made_of words files f s u asks (run_stopped k x a from) e = absurd cc
made_of words files f s u asks (run_faulted k x a from) e = absurd cc
made_of words files f s u asks (run_held k x a from) e = absurd cc
made_of words files f s u asks (run_failed k x a from) e = absurd cc
made_of words files f s u asks (entail_refused x a h) e = absurd cc
made_of words files f s u asks (entail_verified a p v) e = absurd cc
made_of words files f s u asks (entail_refuted a p r) e = absurd cc
made_of words files f s u asks (session_refused a w) e = absurd cc
made_of words files f s u asks (session_listed a w) e =
    record {
      text = w.text;
      bytes_are = w.bytes_are;
      edits = w.edits;
      read = w.read;
      answers = are_checks _ _ _ _ w.answers;
    }

pub session_answers_are_checks : SessionAnswersAreChecks
session_answers_are_checks words files f u asks a = made_of words files f Listed u asks a refl

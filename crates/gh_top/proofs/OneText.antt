-- For given words and files there is one text, but for the choice of a log or of a trace.
use Rattle.std.proofs.Common.{◌≡◌, ◌⊎◌, inl, inr, ◌∙◌, ℕ, ◌<◌, ◌≤◌, List, length, refl, sym, ap, subst}
use Rattle.std.specs.Prelude.{Option, codes, cond, true, false}
use Rattle.gh_ast.specs.Plain.{Procedure, Program}
use Rattle.gh_ast.specs.Rules.{IsTyped}
use Rattle.gh_draw.proofs.Shown.{file_one, file_shown}
use Rattle.gh_draw.specs.Drawings.{line}
use Rattle.gh_draw.specs.Drawn.{IsFileOf}
use Rattle.gh_path.specs.Conditions.{Condition, conditions, IsConditionAt, IsOf}
use Rattle.gh_run.specs.declared.simulate.Report.{Report}
use Rattle.gh_run.specs.declared.simulate.Report.TheVariants as report
use Rattle.gh_top.proofs.OneFile.{one_log_refusal, one_drawing_refusal, one_state_refusal, one_session_refusal}
use Rattle.gh_top.proofs.OneRefusal.{same_text, one_refusal, one_question_refusal}
use Rattle.gh_top.proofs.OneStatus.{valid_log, refuting, one_told, not_past, not_long, one_run, run_refused_too}
use Rattle.gh_top.proofs.OneStatus.{IsGiven, no_request, text_refused, judged, in_session, of_question, one_given}
use Rattle.gh_top.specs.Entails.{IsQuestionRefused}
use Rattle.gh_top.specs.Headline.{Files, asked_text, Answer, usage, refused, check_verified, check_refuted}
use Rattle.gh_top.specs.Headline.{log_verified, log_refuted, recheck_refused, recheck_verified, paths_listed}
use Rattle.gh_top.specs.Headline.{replay_refused, replay_refuted, smallest_verified, smallest_refuted, stress_verified}
use Rattle.gh_top.specs.Headline.{stress_refuted, smt_listed, smt_no_condition, smt_too_long, run_refused, run_unmet}
use Rattle.gh_top.specs.Headline.{run_stopped, run_faulted, run_held, run_failed, session_refused, session_listed}
use Rattle.gh_top.specs.Headline.{entail_refused, entail_verified, entail_refuted}
use Rattle.gh_top.specs.Laws.{log_of, section_of, check_trace, log_trace, smallest_trace, stress_trace, entail_state}
use Rattle.gh_top.specs.Laws.{session_traces, LeavesNoChoice, TextsAreOne}
use Rattle.gh_top.specs.Listings.{listing}
use Rattle.gh_top.specs.Rechecks.{IsLogRefusal, IsValidLogFile, rechecked_text}
use Rattle.gh_top.specs.Refusals.{refusal_text}
use Rattle.gh_top.specs.Replays.{IsDrawingRefusal, IsRefutingFile, replayed_text}
use Rattle.gh_top.specs.Reports.{verified_text, stressed_text}
use Rattle.gh_top.specs.Runs.{IsStateRefusal, IsRunFrom, unmet_text, stopped_text, fault_text, held_text, failed_text}
use Rattle.gh_top.specs.Sessions.{IsSessionRefusal}
use Rattle.gh_top.specs.Smts.{most_asserted, asserted_count, smt_text, unnumbered_text, too_long_text}
use Rattle.gh_top.specs.declared.refusal.Refusal.{Refusal}
use Rattle.gh_top.specs.declared.status.Status.{Status}
use Rattle.gh_top.specs.declared.words.Request.{Request}
use Rattle.gh_top.specs.declared.words.Request.TheVariants.{Check, Log, Recheck, Paths, Replay, Smallest, Stress, Smt}
use Rattle.gh_top.specs.declared.words.Request.TheVariants.{Run, Session, Entail}

-- logs, drawings, scripts and runs

abbrev IsRecheckText : Program → Option (List ℕ) → List ℕ → Type 0
IsRecheckText P bytes u = (IsValidLogFile P bytes × (u ≡ rechecked_text P)) ⊎ IsLogRefusal P bytes u

one_recheck_text : (P : Program) (bytes : Option (List ℕ)) (u v : List ℕ) → IsRecheckText P bytes u
    → IsRecheckText P bytes v → u ≡ v
one_recheck_text P bytes u v (inl (a, e)) (inl (b, f)) = e ∙ sym f
one_recheck_text P bytes u v (inl (a, e)) (inr w) =
    absurd (valid_log P a.text v a.log a.spelled a.valid bytes a.bytes_are w)
one_recheck_text P bytes u v (inr w) (inl (b, f)) =
    absurd (valid_log P b.text u b.log b.spelled b.valid bytes b.bytes_are w)
one_recheck_text P bytes u v (inr w) (inr x) = one_log_refusal P bytes u v w x

abbrev IsReplayText : Program → Option (List ℕ) → List ℕ → Type 0
IsReplayText P bytes u = ((n : ℕ) × IsRefutingFile P bytes n × (u ≡ replayed_text P n)) ⊎ IsDrawingRefusal P bytes u

one_number : (P : Program) (bytes : Option (List ℕ)) (n m : ℕ) → IsRefutingFile P bytes n → IsRefutingFile P bytes m
    → n ≡ m
one_number P bytes n m a b =
    let there : IsFileOf P b.text n a.states =
    subst (λ t. IsFileOf P t n a.states) (same_text bytes a.text b.text a.bytes_are b.bytes_are) a.file in
    (file_one P b.text n m a.states b.states (file_shown P b.text n a.states there)
    (file_shown P b.text m b.states b.file)).0

one_replay_text : (P : Program) (bytes : Option (List ℕ)) (u v : List ℕ) → IsReplayText P bytes u
    → IsReplayText P bytes v → u ≡ v
one_replay_text P bytes u v (inl (n, a, e)) (inl (m, b, f)) =
    e ∙ ap (replayed_text P) (one_number P bytes n m a b) ∙ sym f
one_replay_text P bytes u v (inl (n, a, e)) (inr w) = absurd (refuting P n v bytes a bytes a.bytes_are w)
one_replay_text P bytes u v (inr w) (inl (m, b, f)) = absurd (refuting P m u bytes b bytes b.bytes_are w)
one_replay_text P bytes u v (inr w) (inr x) = one_drawing_refusal P bytes u v w x

abbrev IsScriptText : Program → ℕ → List ℕ → Type 0
IsScriptText P n u =
    ((proc : Procedure) × (c : Condition) × IsConditionAt P n c × IsOf P c proc
    × (asserted_count P proc c ≤ most_asserted) × (u ≡ smt_text P proc c))
    ⊎ ((length (conditions P) < n) × (u ≡ unnumbered_text P n))
    ⊎ ((proc : Procedure) × (c : Condition) × IsConditionAt P n c × IsOf P c proc
    × (most_asserted < asserted_count P proc c) × (u ≡ too_long_text P proc c))

one_script_text : (P : Program) (n : ℕ) (u v : List ℕ) → IsScriptText P n u → IsScriptText P n v → u ≡ v
one_script_text P n u v (inl (proc, c, a, of, few, e)) (inl (q, d, b, its, less, f)) =
    e ∙ one_told P n proc q c d a b of its (smt_text P) ∙ sym f
one_script_text P n u v (inl (proc, c, a, of, few, e)) (inr (inl (past, f))) = absurd (not_past P n c a past)
one_script_text P n u v (inl (proc, c, a, of, few, e)) (inr (inr (q, d, b, its, many, f))) =
    absurd (not_long P n proc q c d a b of its few many)
one_script_text P n u v (inr (inl (past, e))) (inl (q, d, b, its, less, f)) = absurd (not_past P n d b past)
one_script_text P n u v (inr (inl (past, e))) (inr (inl (more, f))) = e ∙ sym f
one_script_text P n u v (inr (inl (past, e))) (inr (inr (q, d, b, its, many, f))) = absurd (not_past P n d b past)
one_script_text P n u v (inr (inr (proc, c, a, of, many, e))) (inl (q, d, b, its, less, f)) =
    absurd (not_long P n q proc d c b a its of less many)
one_script_text P n u v (inr (inr (proc, c, a, of, many, e))) (inr (inl (past, f))) = absurd (not_past P n c a past)
one_script_text P n u v (inr (inr (proc, c, a, of, many, e))) (inr (inr (q, d, b, its, more, f))) =
    e ∙ one_told P n proc q c d a b of its (too_long_text P) ∙ sym f

abbrev run_text : Report → List ℕ
run_text report.Unmet = unmet_text
run_text (report.Stopped k x) = stopped_text k x
run_text (report.Faulted k x) = fault_text k x
run_text (report.Ended k x met) = cond met (held_text k x) (failed_text k x)

abbrev IsRunText : Program → Option (List ℕ) → ℕ → List ℕ → Type 0
IsRunText P bytes n u = ((r : Report) × IsRunFrom P bytes n r × (u ≡ run_text r)) ⊎ IsStateRefusal P bytes u

one_run_text : (P : Program) (bytes : Option (List ℕ)) (n : ℕ) (u v : List ℕ) → IsTyped P → IsRunText P bytes n u
    → IsRunText P bytes n v → u ≡ v
one_run_text P bytes n u v typed (inl (r, a, e)) (inl (q, b, f)) =
    e ∙ ap run_text (one_run P bytes n r q typed a b) ∙ sym f
one_run_text P bytes n u v typed (inl (r, a, e)) (inr w) = absurd (run_refused_too P bytes n v r a bytes a.bytes_are w)
one_run_text P bytes n u v typed (inr w) (inl (r, b, f)) = absurd (run_refused_too P bytes n u r b bytes b.bytes_are w)
one_run_text P bytes n u v typed (inr w) (inr x) = one_state_refusal P bytes u v w x

-- questions that are refused

abbrev IsQuestionRefusalText : Option (List ℕ) → List ℕ → Type 0
IsQuestionRefusalText bytes u = (x : Refusal) × IsQuestionRefused bytes x × (u ≡ refusal_text x)

one_question_text : (bytes : Option (List ℕ)) (u v : List ℕ) → IsQuestionRefusalText bytes u
    → IsQuestionRefusalText bytes v → u ≡ v
one_question_text bytes u v (x, a, e) (y, b, f) = e ∙ ap refusal_text (one_question_refusal bytes x y a b) ∙ sym f

-- answers by cases

-- the text for an admitted program, where there is no choice
abbrev IsTextFor : Files → Request → Program → List ℕ → Type 0
IsTextFor files (Check f) P u = u ≡ verified_text P
IsTextFor files (Log f) P u = ⊥
IsTextFor files (Recheck f l) P u = IsRecheckText P (files 2) u
IsTextFor files (Paths f) P u = u ≡ listing P
IsTextFor files (Replay f d) P u = IsReplayText P (files 2) u
IsTextFor files (Smallest f) P u = u ≡ verified_text P
IsTextFor files (Stress n) P u = u ≡ stressed_text n P
IsTextFor files (Smt f n) P u = IsScriptText P n u
IsTextFor files (Run f x n) P u = IsRunText P (files 2) n u
IsTextFor files (Session f) P u = ⊥
IsTextFor files (Entail f) P u = ⊥

one_text_for : (files : Files) (r : Request) (P : Program) (u v : List ℕ) → IsTyped P → IsTextFor files r P u
    → IsTextFor files r P v → u ≡ v
one_text_for files (Check f) P u v typed a b = a ∙ sym b
one_text_for files (Log f) P u v typed a b = absurd a
one_text_for files (Recheck f l) P u v typed a b = one_recheck_text P (files 2) u v a b
one_text_for files (Paths f) P u v typed a b = a ∙ sym b
one_text_for files (Replay f d) P u v typed a b = one_replay_text P (files 2) u v a b
one_text_for files (Smallest f) P u v typed a b = a ∙ sym b
one_text_for files (Stress n) P u v typed a b = a ∙ sym b
one_text_for files (Smt f n) P u v typed a b = one_script_text P n u v a b
one_text_for files (Run f x n) P u v typed a b = one_run_text P (files 2) n u v typed a b
one_text_for files (Session f) P u v typed a b = absurd a
one_text_for files (Entail f) P u v typed a b = absurd a

abbrev IsUsageText : List ℕ → Type 0
IsUsageText u = u ≡ line (codes "refused: usage")

abbrev IsRefusalText : Refusal → List ℕ → Type 0
IsRefusalText x u = u ≡ refusal_text x

abbrev HasText : List (List ℕ) → Files → List ℕ → Type 0
HasText words files u =
    IsGiven words files IsUsageText IsRefusalText (IsTextFor files) (IsSessionRefusal (files 1))
    (IsQuestionRefusalText (files 1)) u

told : (words : List (List ℕ)) (files : Files) (s : Status) (u : List ℕ) → Answer words files s u
    → LeavesNoChoice words s → HasText words files u
told words files s u (usage h) free = no_request refl h
told words files s u (refused {r = r} x a on h) free = text_refused r x refl a on h
told words files s u (check_verified {f = f} {P = P} a v) free = judged (Check f) P a refl
told words files s u (check_refuted {f = f} a r) free = absurd (free (Check f) a.request check_trace)
told words files s u (log_verified {f = f} log a v l spelled) free = absurd (free (Log f) a.request log_of)
told words files s u (log_refuted {f = f} a r) free = absurd (free (Log f) a.request log_trace)
told words files s u (recheck_refused {f = f} {l = l} {P = P} a w) free = judged (Recheck f l) P a (inr w)
told words files s u (recheck_verified {f = f} {l = l} {P = P} a v) free = judged (Recheck f l) P a (inl (v, refl))
told words files s u (paths_listed {f = f} {P = P} a) free = judged (Paths f) P a refl
told words files s u (replay_refused {f = f} {d = d} {P = P} a w) free = judged (Replay f d) P a (inr w)
told words files s u (replay_refuted {f = f} {d = d} {n = n} {P = P} a r) free =
    judged (Replay f d) P a (inl (n, r, refl))
told words files s u (smallest_verified {f = f} {P = P} a v) free = judged (Smallest f) P a refl
told words files s u (smallest_refuted {f = f} a r) free = absurd (free (Smallest f) a.request smallest_trace)
told words files s u (stress_verified {n = n} {P = P} a v) free = judged (Stress n) P a refl
told words files s u (stress_refuted {n = n} a r) free = absurd (free (Stress n) a.request stress_trace)
told words files s u (smt_listed {f = f} {n = n} {P = P} proc c a found of few decides) free =
    judged (Smt f n) P a (inl (proc, c, found, of, few, refl))
told words files s u (smt_no_condition {f = f} {n = n} {P = P} a past) free =
    judged (Smt f n) P a (inr (inl (past, refl)))
told words files s u (smt_too_long {f = f} {n = n} {P = P} proc c a found of many) free =
    judged (Smt f n) P a (inr (inr (proc, c, found, of, many, refl)))
told words files s u (run_refused {f = f} {x = x} {n = n} {P = P} a w) free = judged (Run f x n) P a (inr w)
told words files s u (run_unmet {f = f} {x = x} {n = n} {P = P} a from) free =
    judged (Run f x n) P a (inl (report.Unmet, from, refl))
told words files s u (run_stopped {f = f} {x = x} {n = n} {P = P} k y a from) free =
    judged (Run f x n) P a (inl (report.Stopped k y, from, refl))
told words files s u (run_faulted {f = f} {x = x} {n = n} {P = P} k y a from) free =
    judged (Run f x n) P a (inl (report.Faulted k y, from, refl))
told words files s u (run_held {f = f} {x = x} {n = n} {P = P} k y a from) free =
    judged (Run f x n) P a (inl (report.Ended k y true, from, refl))
told words files s u (run_failed {f = f} {x = x} {n = n} {P = P} k y a from) free =
    judged (Run f x n) P a (inl (report.Ended k y false, from, refl))
told words files s u (session_refused {f = f} a w) free = in_session f a w
told words files s u (session_listed {f = f} a r) free = absurd (free (Session f) a session_traces)
told words files s u (entail_refused {f = f} x a w) free = of_question f a (x, w, refl)
told words files s u (entail_verified {f = f} a proc v) free = absurd (free (Entail f) a section_of)
told words files s u (entail_refuted {f = f} a proc r) free = absurd (free (Entail f) a entail_state)

pub texts_are_one : TextsAreOne
texts_are_one words files s u v a b free =
    one_given words files IsUsageText IsRefusalText (IsTextFor files) (IsSessionRefusal (files 1))
    (IsQuestionRefusalText (files 1)) (λ x y e f. e ∙ sym f)
    (λ r v w x y c d e f. e ∙ ap refusal_text (one_refusal (asked_text r files) v w c d) ∙ sym f)
    (one_text_for files) (one_session_refusal (files 1)) (one_question_text (files 1)) u v (told words files s u a free)
    (told words files s v b free)

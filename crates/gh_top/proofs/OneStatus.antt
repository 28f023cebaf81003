-- For given words and files there is one status.
--
-- Each answer is brought into a form by cases (`IsGiven`) in which the status is told by an equation, so that two
-- answers are compared case by case: first the requests and the programs, then what is judged of the program. Texts
-- are compared in the same form.
use Rattle.std.proofs.Common.{◌≡◌, ◌⊎◌, inl, inr, ◌∙◌, ℕ, ◌-◌, ◌<◌, ◌≤◌, List, [], ◌∷◌, ◌++◌, length, map, refl, sym}
use Rattle.std.proofs.Common.{ap, subst, arith}
use Rattle.std.specs.Prelude.{Contains, Option, Some, All, Any, cond, true, false, slice_get}
use Rattle.std.proofs.lemmas.List.Elements.{Contains-append_right}
use Rattle.std.proofs.lemmas.Option.{slice_get_within}
use Rattle.gh_ast.proofs.Lists.{member_first, one_value}
use Rattle.gh_ast.proofs.OneQuestion.{one_question}
use Rattle.gh_ast.proofs.TokenLemmas.{one_whole}
use Rattle.gh_ast.specs.Lists.{IsFirstWith}
use Rattle.gh_ast.specs.Limits.{KeepsLimits, HaveFewVariables, IsLimit, of_procedures, of_variables, of_atoms}
use Rattle.gh_ast.specs.Limits.{atom_counts}
use Rattle.gh_ast.specs.Plain.{Procedure, Program}
use Rattle.gh_ast.specs.Occurrences.{variables_of}
use Rattle.gh_ast.specs.Rules.{IsTyped}
use Rattle.gh_ast.specs.QuestionGrammar.{SpellsQuestion, Poses}
use Rattle.gh_ast.specs.Questions.{Question}
use Rattle.gh_ast.specs.declared.typed.Limit.{Limit}
use Rattle.gh_ast.specs.Limits.{most_bytes}
use Rattle.gh_check.proofs.SectionLemmas.{apart}
use Rattle.gh_decide.proofs.Decided.{as_many}
use Rattle.gh_decide.specs.Logs.{AreValidSections, IsValidLog}
use Rattle.gh_draw.proofs.Shown.{file_one, file_shown}
use Rattle.gh_draw.specs.Drawings.{most_drawn}
use Rattle.gh_draw.specs.Drawn.{IsFileOf}
use Rattle.gh_entail.specs.Asked as asked
use Rattle.gh_entail.specs.Limits as question_limits
use Rattle.gh_entail.specs.Meaning.{IsEntailed}
use Rattle.gh_log.proofs.LogLemmas.{one_text}
use Rattle.gh_log.proofs.OutsideLemmas.{logs_are_inside}
use Rattle.gh_log.specs.Lines.{LogLine}
use Rattle.gh_log.specs.Sections.{IsValidSection}
use Rattle.gh_path.specs.Admitted.{Passed, NoneHas, IsFirstLimit, of_text, paths, steps, terms, versions, IsAdmitted}
use Rattle.gh_path.specs.Conditions.{Condition, conditions, IsConditionAt, IsOf}
use Rattle.gh_run.proofs.OneFile.{state_files_are_one}
use Rattle.gh_run.proofs.OneReport.{reports_are_one}
use Rattle.gh_run.specs.StateFiles.{IsStateFile}
use Rattle.gh_run.specs.declared.simulate.Report.{Report}
use Rattle.gh_run.specs.declared.simulate.Report.TheVariants as report
use Rattle.gh_session.proofs.Refusing.{sessions_are_read}
use Rattle.gh_symb.specs.Formulas.{problem}
use Rattle.gh_symb.specs.Symbolic.{symbolic_of}
use Rattle.gh_top.proofs.HeadlineLemmas.{one_request, one_program_asked, one_spelled}
use Rattle.gh_top.specs.Entails.{IsQuestionText, IsQuestionRefused, PosesAdmitted, IsFailingReport}
use Rattle.gh_top.specs.Headline.{Files, asked_text, Asks, Answer, usage, refused, check_verified, check_refuted}
use Rattle.gh_top.specs.Headline.{log_verified, log_refuted, recheck_refused, recheck_verified, paths_listed}
use Rattle.gh_top.specs.Headline.{replay_refused, replay_refuted, smallest_verified, smallest_refuted, stress_verified}
use Rattle.gh_top.specs.Headline.{stress_refuted, smt_listed, smt_no_condition, smt_too_long, run_refused, run_unmet}
use Rattle.gh_top.specs.Headline.{run_stopped, run_faulted, run_held, run_failed, session_refused, session_listed}
use Rattle.gh_top.specs.Headline.{entail_refused, entail_verified, entail_refuted}
use Rattle.gh_top.specs.Laws.{StatusesAreOne}
use Rattle.gh_top.specs.Rechecks.{most_logged, IsLogOf, IsFirstFaultIn, IsLogRefusal, IsValidLogFile}
use Rattle.gh_top.specs.Rechecks as recheck
use Rattle.gh_top.specs.Refusals.{IsAccepted, IsProgramRefused}
use Rattle.gh_top.specs.Replays.{IsDrawingRefusal, IsRefutingFile}
use Rattle.gh_top.specs.Replays as replay
use Rattle.gh_top.specs.Reports.{IsFirstRefuted}
use Rattle.gh_top.specs.Rules.{rule_number}
use Rattle.gh_top.specs.Runs.{most_stated, IsStateRefusal, IsRunFrom}
use Rattle.gh_top.specs.Runs as run
use Rattle.gh_top.specs.Sessions.{most_edited, IsSessionRefusal, IsSessionReport}
use Rattle.gh_top.specs.Sessions as sessions
use Rattle.gh_top.specs.Smts.{most_asserted, asserted_count}
use Rattle.gh_top.specs.Words.{IsRequest, IsOnProgram}
use Rattle.gh_top.specs.declared.refusal.Refusal.{Refusal}
use Rattle.gh_top.specs.declared.refusal.Refusal.TheVariants.{Absent, TooLong, Byte, Deep, Syntax, TypeError}
use Rattle.gh_top.specs.declared.refusal.Refusal.TheVariants.{Limit as LimitPassed}
use Rattle.gh_top.specs.declared.status.Status.{Status}
use Rattle.gh_top.specs.declared.status.Status.TheVariants.{Verified, Listed, Ran, Refuted, Usage, TextRefused}
use Rattle.gh_top.specs.declared.status.Status.TheVariants.{LogRefused, Stopped, Unmet}
use Rattle.gh_top.specs.declared.words.Request.{Request}
use Rattle.gh_top.specs.declared.words.Request.TheVariants.{Check, Log, Recheck, Paths, Replay, Smallest, Stress, Smt}
use Rattle.gh_top.specs.declared.words.Request.TheVariants.{Run, Session, Entail}
use Rattle.gh_trace.proofs.Failures.{failures_are_one}
use Rattle.gh_trace.specs.Traces.{State}
use Rattle.gh_trace.specs.Kept.{drawn}
use Rattle.gh_trace.specs.Replay.{FirstFailure}
use Rattle.gh_trace.specs.Validity.{IsConditionValid, ListedAreValid, AreCounterexample}

-- a refused text is not accepted

pub a_text : (t u : List ℕ) → Some u ≡ Some t → u ≡ t
a_text t u e = cc

pub first_has : (P : Program) (Q : Procedure → Type 0) (proc : Procedure) → NoneHas P Q
    → IsFirstWith Q P.procedures proc → ⊥
first_has P Q proc none first = none proc (first.place, first.within, first.element) first.holds

pub passed_has : (P : Program) (Q : Procedure → Type 0) (kind limit : ℕ) (l : Limit) → NoneHas P Q
    → Passed P Q kind limit l → ⊥
passed_has P Q kind limit l none passed = first_has P Q passed.procedure none passed.first

pub few_variables : (P : Program) → HaveFewVariables P → NoneHas P (λ q. 32 < length (variables_of q))
few_variables P all proc (k, within, at) many =
    let few = all k proc within in
    let here : length (variables_of proc) ≤ 32 = subst (λ q. length (variables_of q) ≤ 32) at few in
    absurd (omega (arith, here, many))

few_atoms : (P : Program) → KeepsLimits P → NoneHas P (λ q. Any (λ n. 32 < n) (atom_counts q))
few_atoms P keeps proc (k, within, at) (j, n, low, there, many) =
    let counts : All (λ m. m ≤ 32) (atom_counts proc) =
    subst (λ q. All (λ m. m ≤ 32) (atom_counts q)) at (keeps.atoms k proc within) in
    let here : n ≤ 32 = subst (λ m. m ≤ 32) there (counts j n low) in
    absurd (omega (arith, here, many))

pub text_limit : (P : Program) (l : Limit) → KeepsLimits P → IsLimit P l → ⊥
text_limit P l keeps (of_procedures passed) = let few = keeps.procedures in let many = passed.passed in
    absurd (omega (arith, few, many))
text_limit P l keeps (of_variables few passed) =
    first_has P (λ q. 32 < length (variables_of q)) passed.procedure (few_variables P keeps.variables) passed.first
text_limit P l keeps (of_atoms few fewer passed) =
    first_has P (λ q. Any (λ n. 32 < n) (atom_counts q)) passed.procedure (few_atoms P keeps) passed.first

limit_passed : (P : Program) (l : Limit) → IsAdmitted P → IsFirstLimit P l → ⊥
limit_passed P l a (of_text is) = text_limit P l a.limits is
limit_passed P l a (paths keeps passed) = passed_has P _ 4 _ l a.paths passed
limit_passed P l a (steps keeps none passed) = passed_has P _ 5 _ l a.steps passed
limit_passed P l a (terms keeps none fewer passed) = passed_has P _ 6 _ l a.terms passed
limit_passed P l a (versions keeps none fewer never passed) = passed_has P _ 7 _ l a.versions passed

not_accepted : (text : List ℕ) (x : Refusal) (P : Program) → IsProgramRefused (Some text) x → IsAccepted text P → ⊥
not_accepted text Absent P e a = absurd cc
not_accepted text TooLong P (t, e, long) a =
    let same = a_text t text e in
    let short : length t ≤ most_bytes = subst (λ u. length u ≤ most_bytes) same a.spelled.readable.short in
    absurd (omega (arith, long, short))
not_accepted text (Byte k) P (t, e, short, first) a = a.spelled.readable.characters k (rw (a_text t text e) first)
not_accepted text (Deep proc) P (t, e, deep) a =
    a.spelled.readable.shallow deep.deep.0 (rw (a_text t text e) deep.deep.1)
not_accepted text (Syntax proc) P (t, e, readable, none, place) a = none P (rw (a_text t text e) at a.spelled.spells)
not_accepted text (TypeError r proc) P (t, Q, e, is, broken) a =
    let one : Q ≡ P = one_spelled text Q P (rw (a_text t text e) is.spells) a.spelled.spells in
    a.admitted.typed (rule_number r) proc (rw one at broken).here
not_accepted text (LimitPassed l) P (t, Q, e, is, typed, passed) a =
    let one : Q ≡ P = one_spelled text Q P (rw (a_text t text e) is.spells) a.spelled.spells in
    limit_passed P l a.admitted (rw one at passed)

-- the same for questions

pub one_posed : (text : List ℕ) (p q : Question) → Poses text p → Poses text q → p ≡ q
one_posed text p q a b =
    one_question a.0 p q a.2 (subst (λ z. SpellsQuestion z q) (sym (one_whole text a.0 b.0 a.1 b.1)) b.2)

question_limit : (q : Question) (l : Limit) → question_limits.KeepsLimits q → question_limits.IsLimit q l → ⊥
question_limit q l keeps (question_limits.of_variables many e) = let few = keeps.text.0 in
    absurd (omega (arith, few, many))
question_limit q l keeps (question_limits.of_atoms few many e) = let fewer = keeps.text.1 in
    absurd (omega (arith, fewer, many))
question_limit q l keeps (question_limits.of_terms few many e) = let fewer = keeps.terms in
    absurd (omega (arith, fewer, many))

not_posed : (text : List ℕ) (x : Refusal) (q : Question) → IsQuestionRefused (Some text) x → IsQuestionText text q
    → asked.IsAdmitted q → ⊥
not_posed text Absent q e a d = absurd cc
not_posed text TooLong q (t, e, long) a d =
    let same = a_text t text e in
    let short : length t ≤ most_bytes = subst (λ u. length u ≤ most_bytes) same a.readable.short in
    absurd (omega (arith, long, short))
not_posed text (Byte k) q (t, e, short, first) a d = a.readable.characters k (rw (a_text t text e) first)
not_posed text (Deep p) q (t, e, deep) a d = a.readable.shallow deep.deep.0 (rw (a_text t text e) deep.deep.1)
not_posed text (Syntax p) q (t, e, readable, none, place) a d = none q (rw (a_text t text e) at a.poses)
not_posed text (TypeError r p) q (t, o, e, is, broken) a d =
    let one : o ≡ q = one_posed text o q (rw (a_text t text e) is.poses) a.poses in
    d.typed (rule_number r) p (rw one at broken).here
not_posed text (LimitPassed l) q (t, o, e, is, typed, passed) a d =
    let one : o ≡ q = one_posed text o q (rw (a_text t text e) is.poses) a.poses in
    question_limit q l d.limits (rw one at passed)

-- what is judged of a program

abbrev IsDecided : Program → Status → Type 0
IsDecided P s =
    ((s ≡ Verified) × ListedAreValid P)
    ⊎ ((s ≡ Refuted) × (k : ℕ) × (c : Condition) × (xs : List State) × IsFirstRefuted P k c xs)

not_refuted : (P : Program) (c : Condition) (xs : List State) → IsConditionValid P c → AreCounterexample P c xs → ⊥
not_refuted P c [] valid r = r
not_refuted P c (x ∷ ys) valid (proc, of, r) = valid proc of x ys r

not_decided : (P : Program) (k : ℕ) (c : Condition) (xs : List State) → ListedAreValid P → IsFirstRefuted P k c xs → ⊥
not_decided P k c xs valid f =
    let there : Contains (conditions P) c =
    subst (λ cs. Contains cs c) (sym f.reached.whole)
    (Contains-append_right f.reached.before (c ∷ f.reached.after) c (member_first c f.reached.after)) in
    not_refuted P c xs (valid c there) f.refutes

one_decided : (P : Program) (s t : Status) → IsDecided P s → IsDecided P t → s ≡ t
one_decided P s t (inl (e, v)) (inl (f, w)) = e ∙ sym f
one_decided P s t (inl (e, v)) (inr (f, k, c, xs, r)) = absurd (not_decided P k c xs v r)
one_decided P s t (inr (e, k, c, xs, r)) (inl (f, v)) = absurd (not_decided P k c xs v r)
one_decided P s t (inr (e, k, c, xs, r)) (inr (f, j, d, ys, q)) = e ∙ sym f

-- log files

pub one_log : (text : List ℕ) (log other : List (List LogLine)) → IsLogOf text log → IsLogOf text other → log ≡ other
one_log text log other a b = (one_text a.version b.version log other a.spelled b.spelled (sym a.text_is ∙ b.text_is)).1

-- the section after valid ones
pub section_at : (P : Program) (earlier : List Condition) (c : Condition) (later : List Condition)
    (before : List (List LogLine)) (s : List LogLine) (after : List (List LogLine)) →
    AreValidSections P earlier before → AreValidSections P (earlier ++ c ∷ later) (before ++ s ∷ after)
    → (proc : Procedure) → IsOf P c proc → IsValidSection (problem (symbolic_of P proc c)) s
section_at P [] c later [] s after v w proc of =
    let (q, its, valid) = w.0 in
    subst (λ x. IsValidSection (problem (symbolic_of P x c)) s)
    (one_value (slice_get P.procedures c.procedure) q proc its of) valid
section_at P [] c later (t ∷ before) s after v w proc of = absurd v
section_at P (d ∷ earlier) c later [] s after v w proc of = absurd v
section_at P (d ∷ earlier) c later (t ∷ before) s after v w proc of =
    section_at P earlier c later before s after v.1 w.1 proc of

no_first_fault : (P : Program) (log : List (List LogLine)) (number at : ℕ) → IsValidLog P log
    → IsFirstFaultIn P log number at → ⊥
no_first_fault P log number at v f =
    let whole : AreValidSections P (f.earlier ++ f.condition ∷ f.later) (f.before ++ f.lines ∷ f.after) =
    subst (λ cs. AreValidSections P cs (f.before ++ f.lines ∷ f.after)) f.whole
    (subst (AreValidSections P (conditions P)) f.sections v) in
    apart (problem (symbolic_of P f.procedure f.condition)) f.lines number f.place
    (section_at P f.earlier f.condition f.later f.before f.lines f.after f.valid whole f.procedure f.of) f.fault

pub valid_log : (P : Program) (text u : List ℕ) (log : List (List LogLine)) → IsLogOf text log → IsValidLog P log
    → (bytes : Option (List ℕ)) → bytes ≡ Some text → IsLogRefusal P bytes u → ⊥
valid_log P text u log is v _ e recheck.absent = absurd cc
valid_log P text u log is v _ e (recheck.too_long {text = t} long) =
    let short : length t ≤ most_logged = subst (λ x. length x ≤ most_logged) (a_text t text (sym e)) is.short in
    absurd (omega (arith, long, short))
valid_log P text u log is v _ e (recheck.outside {text = t} k short first) =
    logs_are_inside text k (record { version = is.version; sections = log; text_is = is.text_is; spelled = is.spelled })
    (rw (a_text t text (sym e)) first)
valid_log P text u log is v _ e (recheck.other_number {text = t} other spelled many) =
    let same : other ≡ log = one_log text other log (rw (a_text t text (sym e)) spelled) is in
    many (ap length same ∙ as_many P (conditions P) log v)
valid_log P text u log is v _ e (recheck.fails {text = t} other number at spelled many found) =
    let same : other ≡ log = one_log text other log (rw (a_text t text (sym e)) spelled) is in
    no_first_fault P log number at v (rw same at found)

abbrev IsRechecked : Program → Option (List ℕ) → Status → Type 0
IsRechecked P bytes s =
    ((s ≡ Verified) × IsValidLogFile P bytes) ⊎ ((s ≡ LogRefused) × (u : List ℕ) × IsLogRefusal P bytes u)

one_rechecked : (P : Program) (bytes : Option (List ℕ)) (s t : Status) → IsRechecked P bytes s → IsRechecked P bytes t
    → s ≡ t
one_rechecked P bytes s t (inl (e, v)) (inl (f, w)) = e ∙ sym f
one_rechecked P bytes s t (inl (e, v)) (inr (f, u, w)) =
    absurd (valid_log P v.text u v.log v.spelled v.valid bytes v.bytes_are w)
one_rechecked P bytes s t (inr (e, u, w)) (inl (f, v)) =
    absurd (valid_log P v.text u v.log v.spelled v.valid bytes v.bytes_are w)
one_rechecked P bytes s t (inr (e, u, w)) (inr (f, v, x)) = e ∙ sym f

-- drawing files

pub refuting : (P : Program) (n : ℕ) (u : List ℕ) (bytes : Option (List ℕ)) → (r : IsRefutingFile P bytes n)
    → (other : Option (List ℕ)) → other ≡ Some r.text → IsDrawingRefusal P other u → ⊥
refuting P n u bytes r _ e replay.absent = absurd cc
refuting P n u bytes r _ e (replay.too_long {text = t} long) =
    let short : length t ≤ most_drawn = subst (λ x. length x ≤ most_drawn) (a_text t r.text (sym e)) r.short in
    absurd (omega (arith, long, short))
refuting P n u bytes r _ e (replay.no_drawing {text = t} short none) =
    none n r.states (rw (a_text t r.text (sym e)) at r.file)
refuting P n u bytes r _ e (replay.fails {text = t} m k xs c short file found fails) =
    let here : IsFileOf P t n r.states = rw (a_text t r.text (sym e)) at r.file in
    let one = file_one P t n m r.states xs (file_shown P t n r.states here) (file_shown P t m xs file) in
    let there : IsConditionAt P n c = rw one.0 found in
    let same : c ≡ r.condition = one_value (slice_get (conditions P) (n - 1)) c r.condition there.1 r.at.1 in
    let fails_here : FirstFailure P r.condition (map drawn r.states) k =
    subst (λ d. FirstFailure P d (map drawn r.states) k) same
    (subst (λ ys. FirstFailure P c (map drawn ys) k) (sym one.1) fails) in
    failures_are_one.none P r.condition (map drawn r.states) r.refutes k fails_here

abbrev IsReplayed : Program → Option (List ℕ) → Status → Type 0
IsReplayed P bytes s =
    ((s ≡ Refuted) × (n : ℕ) × IsRefutingFile P bytes n)
    ⊎ ((s ≡ LogRefused) × (u : List ℕ) × IsDrawingRefusal P bytes u)

one_replayed : (P : Program) (bytes : Option (List ℕ)) (s t : Status) → IsReplayed P bytes s → IsReplayed P bytes t
    → s ≡ t
one_replayed P bytes s t (inl (e, n, r)) (inl (f, m, q)) = e ∙ sym f
one_replayed P bytes s t (inl (e, n, r)) (inr (f, u, w)) = absurd (refuting P n u bytes r bytes r.bytes_are w)
one_replayed P bytes s t (inr (e, u, w)) (inl (f, n, r)) = absurd (refuting P n u bytes r bytes r.bytes_are w)
one_replayed P bytes s t (inr (e, u, w)) (inr (f, v, x)) = e ∙ sym f

-- scripts: the condition of the number is one, or there is none

abbrev IsScripted : Program → ℕ → Status → Type 0
IsScripted P n s =
    ((s ≡ Listed) × (proc : Procedure) × (c : Condition) × IsConditionAt P n c × IsOf P c proc
    × (asserted_count P proc c ≤ most_asserted))
    ⊎ ((s ≡ LogRefused) × (length (conditions P) < n))
    ⊎ ((s ≡ TextRefused) × (proc : Procedure) × (c : Condition) × IsConditionAt P n c × IsOf P c proc
    × (most_asserted < asserted_count P proc c))

pub one_at : (P : Program) (n : ℕ) (c d : Condition) → IsConditionAt P n c → IsConditionAt P n d → c ≡ d
one_at P n c d a b = one_value (slice_get (conditions P) (n - 1)) c d a.1 b.1

pub not_past : (P : Program) (n : ℕ) (c : Condition) → IsConditionAt P n c → length (conditions P) < n → ⊥
not_past P n c a past = let within = slice_get_within (conditions P) (n - 1) c a.1 in let low = a.0 in
    absurd (omega (arith, low, within, past))

-- what is told of the condition of a number and of its procedure is one
pub one_told : {X : Type 0} (P : Program) (n : ℕ) (proc q : Procedure) (c d : Condition) → IsConditionAt P n c
    → IsConditionAt P n d → IsOf P c proc → IsOf P d q → (told : Procedure → Condition → X) → told proc c ≡ told q d
one_told P n proc q c d a b of its told =
    let same : c ≡ d = one_at P n c d a b in
    let here : IsOf P d proc = subst (λ x. IsOf P x proc) same of in
    ap (told proc) same ∙ ap (λ x. told x d) (one_value (slice_get P.procedures d.procedure) proc q here its)

pub not_long : (P : Program) (n : ℕ) (proc q : Procedure) (c d : Condition) → IsConditionAt P n c → IsConditionAt P n d
    → IsOf P c proc → IsOf P d q → asserted_count P proc c ≤ most_asserted
    → most_asserted < asserted_count P q d → ⊥
not_long P n proc q c d a b of its few many =
    let same = one_told P n proc q c d a b of its (asserted_count P) in
    absurd (omega (arith, same, few, many))

one_scripted : (P : Program) (n : ℕ) (s t : Status) → IsScripted P n s → IsScripted P n t → s ≡ t
one_scripted P n s t (inl (e, proc, c, a, of, few)) (inl (f, q, d, b, its, less)) = e ∙ sym f
one_scripted P n s t (inl (e, proc, c, a, of, few)) (inr (inl (f, past))) = absurd (not_past P n c a past)
one_scripted P n s t (inl (e, proc, c, a, of, few)) (inr (inr (f, q, d, b, its, many))) =
    absurd (not_long P n proc q c d a b of its few many)
one_scripted P n s t (inr (inl (e, past))) (inl (f, q, d, b, its, less)) = absurd (not_past P n d b past)
one_scripted P n s t (inr (inl (e, past))) (inr (inl (f, more))) = e ∙ sym f
one_scripted P n s t (inr (inl (e, past))) (inr (inr (f, q, d, b, its, many))) = absurd (not_past P n d b past)
one_scripted P n s t (inr (inr (e, proc, c, a, of, many))) (inl (f, q, d, b, its, less)) =
    absurd (not_long P n q proc d c b a its of less many)
one_scripted P n s t (inr (inr (e, proc, c, a, of, many))) (inr (inl (f, past))) = absurd (not_past P n c a past)
one_scripted P n s t (inr (inr (e, proc, c, a, of, many))) (inr (inr (f, q, d, b, its, more))) = e ∙ sym f

-- runs

abbrev status_of : Report → Status
status_of report.Unmet = Unmet
status_of (report.Stopped k x) = Stopped
status_of (report.Faulted k x) = Refuted
status_of (report.Ended k x met) = cond met Ran Refuted

abbrev IsRan : Program → Option (List ℕ) → ℕ → Status → Type 0
IsRan P bytes n s =
    ((r : Report) × (s ≡ status_of r) × IsRunFrom P bytes n r)
    ⊎ ((s ≡ LogRefused) × (u : List ℕ) × IsStateRefusal P bytes u)

pub run_refused_too : (P : Program) (bytes : Option (List ℕ)) (n : ℕ) (u : List ℕ) (r : Report)
    → (f : IsRunFrom P bytes n r) → (other : Option (List ℕ)) → other ≡ Some f.text → IsStateRefusal P other u → ⊥
run_refused_too P bytes n u r f _ e run.absent = absurd cc
run_refused_too P bytes n u r f _ e (run.too_long {text = t} long) =
    let short : length t ≤ most_stated = subst (λ x. length x ≤ most_stated) (a_text t f.text (sym e)) f.short in
    absurd (omega (arith, long, short))
run_refused_too P bytes n u r f _ e (run.faulty {text = t} k short faulty) =
    state_files_are_one.not_both P t f.begin k (rw (a_text t f.text (sym e)) at f.file) faulty

pub one_run : (P : Program) (bytes : Option (List ℕ)) (n : ℕ) (r q : Report) → IsTyped P → IsRunFrom P bytes n r
    → IsRunFrom P bytes n q → r ≡ q
one_run P bytes n r q typed a b =
    let texts : Some a.text ≡ Some b.text = sym a.bytes_are ∙ b.bytes_are in
    let file : IsStateFile P b.text a.begin = rw (a_text b.text a.text texts) at a.file in
    let begin = state_files_are_one.state P b.text a.begin b.begin typed file b.file in
    reports_are_one P b.begin n r q typed (rw begin at a.comes) b.comes

one_ran : (P : Program) (bytes : Option (List ℕ)) (n : ℕ) (s t : Status) → IsTyped P → IsRan P bytes n s
    → IsRan P bytes n t → s ≡ t
one_ran P bytes n s t typed (inl (r, e, a)) (inl (q, f, b)) = e ∙ ap status_of (one_run P bytes n r q typed a b) ∙ sym f
one_ran P bytes n s t typed (inl (r, e, a)) (inr (f, u, w)) =
    absurd (run_refused_too P bytes n u r a bytes a.bytes_are w)
one_ran P bytes n s t typed (inr (e, u, w)) (inl (r, f, a)) =
    absurd (run_refused_too P bytes n u r a bytes a.bytes_are w)
one_ran P bytes n s t typed (inr (e, u, w)) (inr (f, v, x)) = e ∙ sym f

-- sessions

session_read : (u v : List ℕ) (bytes : Option (List ℕ)) → (r : IsSessionReport bytes u) → (other : Option (List ℕ))
    → other ≡ Some r.text → IsSessionRefusal other v → ⊥
session_read u v bytes r _ e sessions.absent = absurd cc
session_read u v bytes r _ e (sessions.too_long {text = t} long) =
    let short : length t ≤ most_edited = subst (λ x. length x ≤ most_edited) (a_text t r.text (sym e)) r.short in
    absurd (omega (arith, long, short))
session_read u v bytes r _ e (sessions.bad_line {text = t} k short bad) =
    (sessions_are_read t r.edits k (rw (a_text t r.text (sym e)) at r.read)).0 bad
session_read u v bytes r _ e (sessions.too_many {text = t} k short bad) =
    (sessions_are_read t r.edits k (rw (a_text t r.text (sym e)) at r.read)).1 bad

abbrev IsInSession : Option (List ℕ) → Status → Type 0
IsInSession bytes s =
    ((s ≡ Listed) × (u : List ℕ) × IsSessionReport bytes u)
    ⊎ ((s ≡ LogRefused) × (u : List ℕ) × IsSessionRefusal bytes u)

one_session : (bytes : Option (List ℕ)) (s t : Status) → IsInSession bytes s → IsInSession bytes t → s ≡ t
one_session bytes s t (inl (e, u, r)) (inl (f, v, q)) = e ∙ sym f
one_session bytes s t (inl (e, u, r)) (inr (f, v, w)) = absurd (session_read u v bytes r bytes r.bytes_are w)
one_session bytes s t (inr (e, u, w)) (inl (f, v, r)) = absurd (session_read v u bytes r bytes r.bytes_are w)
one_session bytes s t (inr (e, u, w)) (inr (f, v, x)) = e ∙ sym f

-- questions

abbrev IsJudgedQuestion : Option (List ℕ) → Status → Type 0
IsJudgedQuestion bytes s =
    ((s ≡ Verified) × (q : Question) × PosesAdmitted bytes q × IsEntailed q)
    ⊎ ((s ≡ Refuted) × (q : Question) × (u : List ℕ) × PosesAdmitted bytes q × IsFailingReport q u)
    ⊎ ((s ≡ TextRefused) × (x : Refusal) × IsQuestionRefused bytes x)

one_asked : (bytes : Option (List ℕ)) (p q : Question) → PosesAdmitted bytes p → PosesAdmitted bytes q → p ≡ q
one_asked bytes p q a b =
    let texts : Some a.text ≡ Some b.text = sym a.bytes_are ∙ b.bytes_are in
    one_posed b.text p q (rw (a_text b.text a.text texts) at a.posed.poses) b.posed.poses

not_entailed : (bytes : Option (List ℕ)) (p q : Question) (u : List ℕ) → PosesAdmitted bytes p → IsEntailed p
    → PosesAdmitted bytes q → IsFailingReport q u → ⊥
not_entailed bytes p q u a entailed b f =
    let here : IsEntailed q = subst IsEntailed (one_asked bytes p q a b) entailed in
    f.fails.right (here f.state.store f.state.heap f.fails.left)

not_refused : (bytes : Option (List ℕ)) (q : Question) (x : Refusal) → PosesAdmitted bytes q → IsQuestionRefused bytes x
    → ⊥
not_refused bytes q x a w = not_posed a.text x q (rw a.bytes_are at w) a.posed a.admitted

one_question_judged : (bytes : Option (List ℕ)) (s t : Status) → IsJudgedQuestion bytes s → IsJudgedQuestion bytes t
    → s ≡ t
one_question_judged bytes s t (inl (e, q, a, v)) (inl (f, p, b, w)) = e ∙ sym f
one_question_judged bytes s t (inl (e, q, a, v)) (inr (inl (f, p, u, b, r))) = absurd (not_entailed bytes q p u a v b r)
one_question_judged bytes s t (inl (e, q, a, v)) (inr (inr (f, x, w))) = absurd (not_refused bytes q x a w)
one_question_judged bytes s t (inr (inl (e, q, u, a, r))) (inl (f, p, b, w)) = absurd (not_entailed bytes p q u b w a r)
one_question_judged bytes s t (inr (inl (e, q, u, a, r))) (inr (inl (f, p, v, b, o))) = e ∙ sym f
one_question_judged bytes s t (inr (inl (e, q, u, a, r))) (inr (inr (f, x, w))) = absurd (not_refused bytes q x a w)
one_question_judged bytes s t (inr (inr (e, x, w))) (inl (f, p, b, v)) = absurd (not_refused bytes p x b w)
one_question_judged bytes s t (inr (inr (e, x, w))) (inr (inl (f, p, u, b, r))) = absurd (not_refused bytes p x b w)
one_question_judged bytes s t (inr (inr (e, x, w))) (inr (inr (f, y, v))) = e ∙ sym f

-- answers by cases

-- what the status is for an admitted program
abbrev IsJudged : Files → Request → Program → Status → Type 0
IsJudged files (Check f) P s = IsDecided P s
IsJudged files (Log f) P s = IsDecided P s
IsJudged files (Recheck f l) P s = IsRechecked P (files 2) s
IsJudged files (Paths f) P s = s ≡ Listed
IsJudged files (Replay f d) P s = IsReplayed P (files 2) s
IsJudged files (Smallest f) P s = IsDecided P s
IsJudged files (Stress n) P s = IsDecided P s
IsJudged files (Smt f n) P s = IsScripted P n s
IsJudged files (Run f x n) P s = IsRan P (files 2) n s
IsJudged files (Session f) P s = ⊥
IsJudged files (Entail f) P s = ⊥

-- a row of the answer by what it is judged on; of the answer there is its status or its text
pub data IsGiven {X : Type 0} (words : List (List ℕ)) (files : Files) (U : X → Type 0) (T : Refusal → X → Type 0)
    (J : Request → Program → X → Type 0) (S Q : X → Type 0) (x : X) : Type 0 where
  no_request : U x → ((r : Request) → IsRequest words r → ⊥) → IsGiven words files U T J S Q x
  text_refused : (r : Request) (v : Refusal) → T v x → IsRequest words r → IsOnProgram r
      → IsProgramRefused (asked_text r files) v → IsGiven words files U T J S Q x
  judged : (r : Request) (P : Program) → Asks words files r P → J r P x → IsGiven words files U T J S Q x
  in_session : (f : List ℕ) → IsRequest words (Session f) → S x → IsGiven words files U T J S Q x
  of_question : (f : List ℕ) → IsRequest words (Entail f) → Q x → IsGiven words files U T J S Q x

abbrev HasStatus : List (List ℕ) → Files → Status → Type 0
HasStatus words files s =
    IsGiven words files (λ t. t ≡ Usage) (λ v t. t ≡ TextRefused) (IsJudged files) (IsInSession (files 1))
    (IsJudgedQuestion (files 1)) s

given : (words : List (List ℕ)) (files : Files) (s : Status) (u : List ℕ) → Answer words files s u
    → HasStatus words files s
given words files s u (usage h) = no_request refl h
given words files s u (refused {r = r} x a on h) = text_refused r x refl a on h
given words files s u (check_verified {f = f} {P = P} a v) = judged (Check f) P a (inl (refl, v))
given words files s u (check_refuted {f = f} {P = P} a r) =
    judged (Check f) P a (inr (refl, r.number, r.condition, r.states, r.first))
given words files s u (log_verified {f = f} {P = P} log a v l spelled) = judged (Log f) P a (inl (refl, v))
given words files s u (log_refuted {f = f} {P = P} a r) =
    judged (Log f) P a (inr (refl, r.number, r.condition, r.states, r.first))
given words files s u (recheck_refused {f = f} {l = l} {u = v} {P = P} a w) =
    judged (Recheck f l) P a (inr (refl, v, w))
given words files s u (recheck_verified {f = f} {l = l} {P = P} a v) = judged (Recheck f l) P a (inl (refl, v))
given words files s u (paths_listed {f = f} {P = P} a) = judged (Paths f) P a refl
given words files s u (replay_refused {f = f} {d = d} {u = v} {P = P} a w) = judged (Replay f d) P a (inr (refl, v, w))
given words files s u (replay_refuted {f = f} {d = d} {n = n} {P = P} a r) = judged (Replay f d) P a (inl (refl, n, r))
given words files s u (smallest_verified {f = f} {P = P} a v) = judged (Smallest f) P a (inl (refl, v))
given words files s u (smallest_refuted {f = f} {P = P} a r) =
    judged (Smallest f) P a (inr (refl, r.number, r.condition, r.states, r.first))
given words files s u (stress_verified {n = n} {P = P} a v) = judged (Stress n) P a (inl (refl, v))
given words files s u (stress_refuted {n = n} {P = P} a r) =
    judged (Stress n) P a (inr (refl, r.number, r.condition, r.states, r.first))
given words files s u (smt_listed {f = f} {n = n} {P = P} proc c a found of few decides) =
    judged (Smt f n) P a (inl (refl, proc, c, found, of, few))
given words files s u (smt_no_condition {f = f} {n = n} {P = P} a past) = judged (Smt f n) P a (inr (inl (refl, past)))
given words files s u (smt_too_long {f = f} {n = n} {P = P} proc c a found of many) =
    judged (Smt f n) P a (inr (inr (refl, proc, c, found, of, many)))
given words files s u (run_refused {f = f} {x = x} {u = v} {n = n} {P = P} a w) =
    judged (Run f x n) P a (inr (refl, v, w))
given words files s u (run_unmet {f = f} {x = x} {n = n} {P = P} a from) =
    judged (Run f x n) P a (inl (report.Unmet, refl, from))
given words files s u (run_stopped {f = f} {x = x} {n = n} {P = P} k y a from) =
    judged (Run f x n) P a (inl (report.Stopped k y, refl, from))
given words files s u (run_faulted {f = f} {x = x} {n = n} {P = P} k y a from) =
    judged (Run f x n) P a (inl (report.Faulted k y, refl, from))
given words files s u (run_held {f = f} {x = x} {n = n} {P = P} k y a from) =
    judged (Run f x n) P a (inl (report.Ended k y true, refl, from))
given words files s u (run_failed {f = f} {x = x} {n = n} {P = P} k y a from) =
    judged (Run f x n) P a (inl (report.Ended k y false, refl, from))
given words files s u (session_refused {f = f} {u = v} a w) = in_session f a (inr (refl, v, w))
given words files s u (session_listed {f = f} {u = v} a r) = in_session f a (inl (refl, v, r))
given words files s u (entail_refused {f = f} x a w) = of_question f a (inr (inr (refl, x, w)))
given words files s u (entail_verified {f = f} {q = q} a proc v) = of_question f a (inl (refl, q, proc, v.entailed))
given words files s u (entail_refuted {f = f} {u = v} {q = q} a proc r) =
    of_question f a (inr (inl (refl, q, v, proc, r)))

one_judged : (files : Files) (r : Request) (P : Program) (s t : Status) → IsTyped P → IsJudged files r P s
    → IsJudged files r P t → s ≡ t
one_judged files (Check f) P s t typed a b = one_decided P s t a b
one_judged files (Log f) P s t typed a b = one_decided P s t a b
one_judged files (Recheck f l) P s t typed a b = one_rechecked P (files 2) s t a b
one_judged files (Paths f) P s t typed a b = a ∙ sym b
one_judged files (Replay f d) P s t typed a b = one_replayed P (files 2) s t a b
one_judged files (Smallest f) P s t typed a b = one_decided P s t a b
one_judged files (Stress n) P s t typed a b = one_decided P s t a b
one_judged files (Smt f n) P s t typed a b = one_scripted P n s t a b
one_judged files (Run f x n) P s t typed a b = one_ran P (files 2) n s t typed a b
one_judged files (Session f) P s t typed a b = absurd a
one_judged files (Entail f) P s t typed a b = absurd a

-- a text is refused or asks about a program
asks_or_refused : (words : List (List ℕ)) (files : Files) (r q : Request) (x : Refusal) (P : Program)
    → IsRequest words r → IsProgramRefused (asked_text r files) x → Asks words files q P → ⊥
asks_or_refused words files r q x P a w b =
    let same = one_request words r q a b.request in
    let here : IsProgramRefused (asked_text q files) x =
    subst (λ proc. IsProgramRefused (asked_text proc files) x) same w in
    not_accepted b.text x P (subst (λ o. IsProgramRefused o x) b.bytes here) b.accepted

off_program : (words : List (List ℕ)) (r q : Request) → IsRequest words r → IsOnProgram r → IsRequest words q
    → (IsOnProgram q → ⊥) → ⊥
off_program words r q a on b off = off (subst IsOnProgram (one_request words r q a b) on)

module _ {X : Type 0} (words : List (List ℕ)) (files : Files) (U : X → Type 0) (T : Refusal → X → Type 0)
    (J : Request → Program → X → Type 0) (S Q : X → Type 0)
    (one_usage : (x y : X) → U x → U y → x ≡ y)
    (one_refused : (r : Request) (v w : Refusal) (x y : X) → IsProgramRefused (asked_text r files) v
    → IsProgramRefused (asked_text r files) w → T v x → T w y → x ≡ y)
    (one_judged_x : (r : Request) (P : Program) (x y : X) → IsTyped P → J r P x → J r P y → x ≡ y)
    (one_session_x : (x y : X) → S x → S y → x ≡ y) (one_question_x : (x y : X) → Q x → Q y → x ≡ y) where
  abbrev Given : X → Type 0
  Given x = IsGiven words files U T J S Q x

  pub one_given : (x y : X) → Given x → Given y → x ≡ y
  one_given x y (no_request e h) (no_request f k) = one_usage x y e f
  one_given x y (no_request e h) (text_refused r v f a on w) = absurd (h r a)
  one_given x y (no_request e h) (judged r P a v) = absurd (h r a.request)
  one_given x y (no_request e h) (in_session f a v) = absurd (h (Session f) a)
  one_given x y (no_request e h) (of_question f a v) = absurd (h (Entail f) a)
  one_given x y (text_refused r v e a on w) (no_request f k) = absurd (k r a)
  one_given x y (text_refused r v e a on w) (text_refused q o f b of z) =
      let here : IsProgramRefused (asked_text q files) v =
      subst (λ proc. IsProgramRefused (asked_text proc files) v) (one_request words r q a b) w in
      one_refused q v o x y here z e f
  one_given x y (text_refused r v e a on w) (judged q P b z) = absurd (asks_or_refused words files r q v P a w b)
  one_given x y (text_refused r v e a on w) (in_session f b z) =
      absurd (off_program words r (Session f) a on b (λ h. h))
  one_given x y (text_refused r v e a on w) (of_question f b z) =
      absurd (off_program words r (Entail f) a on b (λ h. h))
  one_given x y (judged r P a v) (no_request f k) = absurd (k r a.request)
  one_given x y (judged r P a v) (text_refused q o f b on w) = absurd (asks_or_refused words files q r o P b w a)
  one_given x y (judged r P a v) (judged q Q b w) =
      let request : q ≡ r = one_request words q r b.request a.request in
      let program : Q ≡ P = one_program_asked words files q r Q P b a in
      let here : J r P y = subst (λ proc. J r proc y) program (subst (λ proc. J proc Q y) request w) in
      one_judged_x r P x y a.accepted.admitted.typed v here
  one_given x y (judged r P a v) (in_session f b w) =
      absurd (off_program words r (Session f) a.request a.on_program b (λ h. h))
  one_given x y (judged r P a v) (of_question f b w) =
      absurd (off_program words r (Entail f) a.request a.on_program b (λ h. h))
  one_given x y (in_session f a v) (no_request e k) = absurd (k (Session f) a)
  one_given x y (in_session f a v) (text_refused r o e b on w) =
      absurd (off_program words r (Session f) b on a (λ h. h))
  one_given x y (in_session f a v) (judged r P b w) =
      absurd (off_program words r (Session f) b.request b.on_program a (λ h. h))
  one_given x y (in_session f a v) (in_session g b w) = one_session_x x y v w
  one_given x y (in_session f a v) (of_question g b w) = let same = one_request words (Session f) (Entail g) a b in
      absurd cc
  one_given x y (of_question f a v) (no_request e k) = absurd (k (Entail f) a)
  one_given x y (of_question f a v) (text_refused r o e b on w) =
      absurd (off_program words r (Entail f) b on a (λ h. h))
  one_given x y (of_question f a v) (judged r P b w) =
      absurd (off_program words r (Entail f) b.request b.on_program a (λ h. h))
  one_given x y (of_question f a v) (in_session g b w) = let same = one_request words (Entail f) (Session g) a b in
      absurd cc
  one_given x y (of_question f a v) (of_question g b w) = one_question_x x y v w

pub statuses_are_one : StatusesAreOne
statuses_are_one words files s t u v a b =
    one_given words files (λ z. z ≡ Usage) (λ w z. z ≡ TextRefused) (IsJudged files) (IsInSession (files 1))
    (IsJudgedQuestion (files 1)) (λ x y e f. e ∙ sym f) (λ r w z x y c d e f. e ∙ sym f)
    (one_judged files) (one_session (files 1)) (one_question_judged (files 1)) s t (given words files s u a)
    (given words files t v b)

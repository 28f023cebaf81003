-- From an answer to what the run promises.
use Rattle.std.proofs.Common.{◌≡◌, ℕ, ◌+◌, ◌*◌, List, [], ◌∷◌, length, refl, sym, ap, subst, arith, ◌∙◌}
use Rattle.std.specs.Prelude.{Option, Some, None, codes, Result, Ok, Err, IfOk, slice_get, unwrap_or, cond, ◌==◌}
use Rattle.std.specs.Str.Parse.{digits_value}
use Rattle.std.proofs.lemmas.Fmt.{decimal_is_IsNumeral}
use Rattle.gh_base.specs.Outside.{Table}
use Rattle.gh_base.specs.Reading.{told}
use Rattle.gh_ast.specs.Plain.{Program}
use Rattle.gh_ast.specs.Grammar.{Spells, SpellsProgram}
use Rattle.gh_ast.proofs.TokenLemmas.{one_whole}
use Rattle.gh_ast.proofs.OneProgram.{one_program}
use Rattle.gh_machine.specs.Machine.{IsGood}
use Rattle.gh_path.specs.Admitted.{IsAdmitted}
use Rattle.gh_decide.proofs.Rules.{typed_is_good}
use Rattle.gh_decide.proofs.Listed.{valid_logs_show_validity}
use Rattle.gh_draw.specs.Drawings.{line}
use Rattle.gh_top.specs.Words.{IsRequest, IsInLimits, IsOnProgram, words_of}
use Rattle.gh_top.specs.Sources.{source_of, most_from, second_file}
use Rattle.gh_top.specs.Files.{Shows, IsNoLonger, IsFileRead, IsSecondWithin, IsSourceRead}
use Rattle.gh_top.specs.Rechecks.{most_logged}
use Rattle.gh_top.specs.Runs.{most_stated}
use Rattle.gh_draw.specs.Drawings.{most_drawn}
use Rattle.gh_top.specs.Fronts.{IsTextOf, IsFrontError}
use Rattle.gh_top.specs.declared.front.FrontError.TheVariants.{Refused}
use Rattle.gh_top.specs.Causes.{IsOnFiles}
use Rattle.gh_top.specs.Checks.{IsProgramVerdict, IsCheckText, of_refusal, of_verdict, all_valid, some_refuted}
use Rattle.gh_top.specs.Seen.{Writing, Outside, table_of, InputsCountStands, SinkCountStands, Writes}
use Rattle.gh_top.specs.Sessions.{most_edited, IsSessionAnswer, file_refused, file_answered}
use Rattle.gh_ast.specs.Limits.{most_bytes}
use Rattle.gh_top.specs.Refusals.{IsText, IsAccepted, IsProgramRefused, refusal_text}
use Rattle.gh_top.specs.Headline.{Files, asked_text, Asks, Answer, usage, refused, check_verified, check_refuted}
use Rattle.gh_top.specs.Headline.{log_verified, log_refuted, recheck_refused, recheck_verified, paths_listed}
use Rattle.gh_top.specs.Headline.{replay_refused, replay_refuted, smallest_verified, smallest_refuted, stress_verified}
use Rattle.gh_top.specs.Headline.{stress_refuted, HasAnswer, IsGoodFor, IsWrittenWhole, IsAnswered, IsReadFault}
use Rattle.gh_top.specs.Headline.{IsWriteFault, NamesFile, smt_listed, smt_no_condition, smt_too_long, run_refused}
use Rattle.gh_top.specs.Headline.{run_unmet, run_stopped, run_faulted, run_held, run_failed, session_refused}
use Rattle.gh_top.specs.Headline.{session_listed, entail_refused, entail_verified, entail_refuted}
use Rattle.gh_top.specs.Listings.{listing}
use Rattle.gh_top.specs.Replies.{Replies, RepliesOn, RepliesOnSecond}
use Rattle.gh_top.specs.declared.file.FileText.{FileText}
use Rattle.gh_top.specs.declared.refusal.Refusal.{Refusal}
use Rattle.gh_top.specs.declared.words.Request.{Request}
use Rattle.gh_top.specs.declared.words.Request.TheVariants.{Check, Log, Recheck, Paths, Replay, Smallest, Stress, Smt}
use Rattle.gh_top.specs.declared.words.Request.TheVariants.{Run, Session, Entail}
use Rattle.gh_top.specs.declared.status.Status.{Status}
use Rattle.gh_top.specs.declared.status.Status.TheVariants.{Verified, Listed, Ran, Refuted, Usage, ReadFault}
use Rattle.gh_top.specs.declared.status.Status.TheVariants.{TextRefused, LogRefused, WriteFault, OutOfMemory, Stopped}
use Rattle.gh_top.specs.declared.status.Status.TheVariants.{Unmet}
use Rattle.gh_top.proofs.FileLemmas.{one_file, two_files, some_files}

-- words are one request at most

-- a number that tells the modes apart: ten times the mode's first byte, and how many follow
abbrev key : List (List ℕ) → ℕ
key ((x ∷ xs) ∷ ws) = x * 10 + length xs
key _ = 0

abbrev word : ℕ → List (List ℕ) → List ℕ
word k words = unwrap_or (slice_get words k) []

-- the request that words are, if they are one
abbrev meant : ℕ → List (List ℕ) → Request
meant k ws =
    cond (k == 994) (Check (word 1 ws))
    (cond (k == 1082) (Log (word 1 ws))
    (cond (k == 1146) (Recheck (word 1 ws) (word 2 ws))
    (cond (k == 1124) (Paths (word 1 ws))
    (cond (k == 1145) (Replay (word 1 ws) (word 2 ws))
    (cond (k == 1157) (Smallest (word 1 ws))
    (cond (k == 1152) (Smt (word 1 ws) (digits_value 10 (word 2 ws)))
    (cond (k == 1156) (Session (word 1 ws))
    (cond (k == 1142) (Run (word 1 ws) (word 2 ws) (digits_value 10 (word 3 ws)))
    (cond (k == 1015) (Entail (word 1 ws)) (Stress (digits_value 10 (word 1 ws))))))))))))

meant_is : (r : Request) → IsInLimits r → meant (key (words_of r)) (words_of r) ≡ r
meant_is (Check file) h = refl
meant_is (Log file) h = refl
meant_is (Recheck file log) h = refl
meant_is (Paths file) h = refl
meant_is (Replay file drawing) h = refl
meant_is (Smallest file) h = refl
meant_is (Session file) h = refl
meant_is (Entail file) h = refl
meant_is (Smt file n) h = ap (Smt file) (decimal_is_IsNumeral n (omega (arith, h.1))).1
meant_is (Run file state n) h = ap (Run file state) (decimal_is_IsNumeral n (omega (arith, h.1))).1
meant_is (Stress n) h = ap Stress (decimal_is_IsNumeral n (omega (arith, h.1))).1

one_words : (r q : Request) → IsInLimits r → IsInLimits q → words_of r ≡ words_of q → r ≡ q
one_words r q h k e = sym (meant_is r h) ∙ ap (λ ws. meant (key ws) ws) e ∙ meant_is q k

pub one_request : (words : List (List ℕ)) (r q : Request) → IsRequest words r → IsRequest words q → r ≡ q
one_request words r q a b =
    one_words r q a.spelled.limits b.spelled.limits (sym a.spelled.words_are ∙ b.spelled.words_are)

pub one_spelled : (text : List ℕ) (P Q : Program) → Spells text P → Spells text Q → P ≡ Q
one_spelled text P Q a b =
    one_program a.0 P Q a.2 (subst (λ z. SpellsProgram z Q) (sym (one_whole text a.0 b.0 a.1 b.1)) b.2)

pub one_program_asked : (words : List (List ℕ)) (files : Files) (r q : Request) (P Q : Program) → Asks words files r P
    → Asks words files q Q → P ≡ Q
one_program_asked words files r q P Q a b =
    let same = one_request words r q a.request b.request in
    let texts : Some a.text ≡ Some b.text = sym a.bytes ∙ ap (λ x. asked_text x files) same ∙ b.bytes in
    let text : a.text ≡ b.text = cc in
    one_spelled a.text P Q a.accepted.spelled.spells (subst (λ t. Spells t Q) (sym text) b.accepted.spelled.spells)

-- a status that comes with a text
pub record IsSaid (s : Status) : Type 0 where
  pub no_read_fault : s ≡ ReadFault → ⊥
  pub no_write_fault : s ≡ WriteFault → ⊥
  pub no_want : s ≡ OutOfMemory → ⊥

said_verified : IsSaid Verified
said_verified = record { no_read_fault = λ e. absurd cc; no_write_fault = λ e. absurd cc; no_want = λ e. absurd cc }

said_refuted : IsSaid Refuted
said_refuted = record { no_read_fault = λ e. absurd cc; no_write_fault = λ e. absurd cc; no_want = λ e. absurd cc }

said_text_refused : IsSaid TextRefused
said_text_refused = record { no_read_fault = λ e. absurd cc; no_write_fault = λ e. absurd cc; no_want = λ e. absurd cc }

said_log_refused : IsSaid LogRefused
said_log_refused = record { no_read_fault = λ e. absurd cc; no_write_fault = λ e. absurd cc; no_want = λ e. absurd cc }

said_listed : IsSaid Listed
said_listed = record { no_read_fault = λ e. absurd cc; no_write_fault = λ e. absurd cc; no_want = λ e. absurd cc }

said_usage : IsSaid Usage
said_usage = record { no_read_fault = λ e. absurd cc; no_write_fault = λ e. absurd cc; no_want = λ e. absurd cc }

said_ran : IsSaid Ran
said_ran = record { no_read_fault = λ e. absurd cc; no_write_fault = λ e. absurd cc; no_want = λ e. absurd cc }

said_stopped : IsSaid Stopped
said_stopped = record { no_read_fault = λ e. absurd cc; no_write_fault = λ e. absurd cc; no_want = λ e. absurd cc }

said_unmet : IsSaid Unmet
said_unmet = record { no_read_fault = λ e. absurd cc; no_write_fault = λ e. absurd cc; no_want = λ e. absurd cc }

pub said : (words : List (List ℕ)) (files : Files) (s : Status) (u : List ℕ) → Answer words files s u → IsSaid s
said words files s u (usage h) = said_usage
said words files s u (refused x a on h) = said_text_refused
said words files s u (check_verified a v) = said_verified
said words files s u (check_refuted a f) = said_refuted
said words files s u (log_verified log a v l spelled) = said_verified
said words files s u (log_refuted a f) = said_refuted
said words files s u (recheck_refused a w) = said_log_refused
said words files s u (recheck_verified a v) = said_verified
said words files s u (paths_listed a) = said_listed
said words files s u (replay_refused a w) = said_log_refused
said words files s u (replay_refuted a f) = said_refuted
said words files s u (smallest_verified a v) = said_verified
said words files s u (smallest_refuted a f) = said_refuted
said words files s u (stress_verified a v) = said_verified
said words files s u (stress_refuted a f) = said_refuted
said words files s u (smt_listed p c a at of few decides) = said_listed
said words files s u (smt_no_condition a past) = said_log_refused
said words files s u (smt_too_long p c a at of many) = said_text_refused
said words files s u (run_refused a why) = said_log_refused
said words files s u (run_unmet a from) = said_unmet
said words files s u (run_stopped k x a from) = said_stopped
said words files s u (run_faulted k x a from) = said_refuted
said words files s u (run_held k x a from) = said_ran
said words files s u (run_failed k x a from) = said_refuted
said words files s u (session_refused a w) = said_log_refused
said words files s u (session_listed a w) = said_listed
said words files s u (entail_refused x a h) = said_text_refused
said words files s u (entail_verified a p v) = said_verified
said words files s u (entail_refuted a p f) = said_refuted

-- a program text that `check` was asked about
pub check_asks : (words : List (List ℕ)) (files : Files) (f text : List ℕ) (P : Program) → IsRequest words (Check f)
    → files 1 ≡ Some text → IsAccepted text P → Asks words files (Check f) P
check_asks words files f text P asks bytes accepted =
    record { request = asks; on_program = tt; text = text; bytes = bytes; accepted = accepted }

-- words that ask about a question ask about no program
pub no_program : (words : List (List ℕ)) (file : List ℕ) (r : Request) → IsRequest words (Entail file)
    → IsRequest words r → IsOnProgram r → ⊥
no_program words file r a b on =
    let no : IsOnProgram (Entail file) = subst IsOnProgram (one_request words r (Entail file) b a) on in no

-- a program that is verified is good

good_one : (words : List (List ℕ)) (files : Files) (r : Request) (P : Program) → Asks words files r P → IsGood P
    → IsGoodFor words files
good_one words files r P a g q Q b = subst IsGood (one_program_asked words files r q P Q a b) g

pub good : (words : List (List ℕ)) (files : Files) (s : Status) (u : List ℕ) → Answer words files s u → s ≡ Verified
    → IsGoodFor words files
good words files s u (usage h) e = absurd cc
good words files s u (refused x a on h) e = absurd cc
good words files s u (check_verified a v) e = good_one words files _ _ a (typed_is_good _ a.accepted.admitted.typed v)
good words files s u (check_refuted a f) e = absurd cc
good words files s u (log_verified log a v l spelled) e =
    good_one words files _ _ a (typed_is_good _ a.accepted.admitted.typed v)
good words files s u (log_refuted a f) e = absurd cc
good words files s u (recheck_refused a w) e = absurd cc
good words files s u (recheck_verified a v) e =
    good_one words files _ _ a
    (typed_is_good _ a.accepted.admitted.typed (valid_logs_show_validity _ v.log a.accepted.admitted.typed v.valid))
good words files s u (paths_listed a) e = absurd cc
good words files s u (replay_refused a w) e = absurd cc
good words files s u (replay_refuted a f) e = absurd cc
good words files s u (smallest_verified a v) e =
    good_one words files _ _ a (typed_is_good _ a.accepted.admitted.typed v)
good words files s u (smallest_refuted a f) e = absurd cc
good words files s u (stress_verified a v) e = good_one words files _ _ a (typed_is_good _ a.accepted.admitted.typed v)
good words files s u (stress_refuted a f) e = absurd cc
good words files s u (smt_listed proc c a at of few decides) e = absurd cc
good words files s u (smt_no_condition a past) e = absurd cc
good words files s u (smt_too_long proc c a at of many) e = absurd cc
good words files s u (run_refused a why) e = absurd cc
good words files s u (run_unmet a from) e = absurd cc
good words files s u (run_stopped k x a from) e = absurd cc
good words files s u (run_faulted k x a from) e = absurd cc
good words files s u (run_held k x a from) e = absurd cc
good words files s u (run_failed k x a from) e = absurd cc
good words files s u (session_refused a w) e = absurd cc
good words files s u (session_listed a w) e = absurd cc
good words files s u (entail_refused x a h) e = absurd cc
good words files s u (entail_verified a proc v) e =
    λ r P asks. absurd (no_program words _ r a asks.request asks.on_program)
good words files s u (entail_refuted a proc f) e = absurd cc

pub is_whole : (t : Option Table) (words : List (List ℕ)) (w : Writing) (s : Status) (u : List ℕ)
    → HasAnswer t words s u → Writes w u → IsWrittenWhole t words w s
is_whole t words w s u a written =
    record { text = u; given = a; written = written; good = λ e. good words a.files s u a.answer e }

pub answered : (words : List (List ℕ)) (o : Outside) (s : Status) (u : List ℕ) → HasAnswer (table_of o) words s u
    → Writes o.writing u → IsAnswered words o s
answered words o Verified u a w = is_whole (table_of o) words o.writing Verified u a w
answered words o Listed u a w = is_whole (table_of o) words o.writing Listed u a w
answered words o Ran u a w = is_whole (table_of o) words o.writing Ran u a w
answered words o Refuted u a w = is_whole (table_of o) words o.writing Refuted u a w
answered words o Usage u a w = is_whole (table_of o) words o.writing Usage u a w
answered words o ReadFault u a w = tt
answered words o TextRefused u a w = is_whole (table_of o) words o.writing TextRefused u a w
answered words o LogRefused u a w = is_whole (table_of o) words o.writing LogRefused u a w
answered words o WriteFault u a w = tt
answered words o OutOfMemory u a w = absurd ((said words a.files OutOfMemory u a.answer).no_want refl)
answered words o Stopped u a w = is_whole (table_of o) words o.writing Stopped u a w
answered words o Unmet u a w = is_whole (table_of o) words o.writing Unmet u a w

-- the counts stand still where an answer is given

pub calm_read : (words : List (List ℕ)) (o : Outside) (s : Status) → IsSaid s → InputsCountStands o.reading
    → IsReadFault words o s
calm_read words o Verified h e = e
calm_read words o Listed h e = e
calm_read words o Ran h e = e
calm_read words o Refuted h e = e
calm_read words o Usage h e = e
calm_read words o ReadFault h e = absurd (h.no_read_fault refl)
calm_read words o TextRefused h e = e
calm_read words o LogRefused h e = e
calm_read words o WriteFault h e = e
calm_read words o OutOfMemory h e = e
calm_read words o Stopped h e = e
calm_read words o Unmet h e = e

pub calm_write : (words : List (List ℕ)) (o : Outside) (s : Status) → IsSaid s → SinkCountStands o.writing
    → IsWriteFault words o s
calm_write words o Verified h e = e
calm_write words o Listed h e = e
calm_write words o Ran h e = e
calm_write words o Refuted h e = e
calm_write words o Usage h e = e
calm_write words o ReadFault h e = e
calm_write words o TextRefused h e = e
calm_write words o LogRefused h e = e
calm_write words o WriteFault h e = absurd (h.no_write_fault refl)
calm_write words o OutOfMemory h e = e
calm_write words o Stopped h e = e
calm_write words o Unmet h e = e

-- the answers

pub usage_answer : (t : Option Table) (words : List (List ℕ)) (u : List ℕ) → ((r : Request) → IsRequest words r → ⊥)
    → u ≡ line (codes "refused: usage") → HasAnswer t words Usage u
usage_answer None words u h e = record { files = λ k. None; told = tt; answer = rw e (usage h) }
usage_answer (Some table) words u h e = let f = some_files table words in
    record { files = f.0; told = f.1; answer = rw e (usage h) }

-- a program text has the limit of programs
program_most : (r : Request) → IsOnProgram r → most_from (source_of r) ≡ most_bytes
program_most (Check file) on = refl
program_most (Log file) on = refl
program_most (Recheck file log) on = refl
program_most (Paths file) on = refl
program_most (Replay file drawing) on = refl
program_most (Smallest file) on = refl
program_most (Smt file n) on = refl
program_most (Run file state n) on = refl
program_most (Stress n) on = refl
program_most (Session file) on = absurd on
program_most (Entail file) on = absurd on

pub program_shown : (r : Request) (bytes : Option (List ℕ)) (file : FileText) → IsOnProgram r
    → Shows (most_from (source_of r)) bytes file → Shows most_bytes bytes file
program_shown r bytes file on shows = subst (λ m. Shows m bytes file) (program_most r on) shows

-- the program text is refused
pub text_refused : (t : Option Table) (r : Request) (file : FileText) (x : Refusal) (s : Status) (u : List ℕ)
    → IsOnProgram r → IsSourceRead t (source_of r) file
    → ((bytes : Option (List ℕ)) → Shows most_bytes bytes file → IsProgramRefused bytes x) → s ≡ TextRefused
    → u ≡ refusal_text x → (words : List (List ℕ)) → IsRequest words r → HasAnswer t words s u
text_refused t r file x s u on read why a b words asks =
    let f = one_file t words r read.bytes asks read.are in
    record {
      files = f.0;
      told = f.1;
      answer = rw (a, b) (refused x asks on
          (subst (λ o. IsProgramRefused o x) (sym f.2)
          (why read.bytes (program_shown r read.bytes file on read.shows))));
    }

pub asks_of : (words : List (List ℕ)) (files : Files) (r : Request) (P : Program) (bytes : Option (List ℕ))
    → IsRequest words r → IsOnProgram r → asked_text r files ≡ bytes → IsTextOf bytes P → IsAdmitted P
    → Asks words files r P
asks_of words files r P bytes asks on e t admitted =
    record {
      request = asks;
      on_program = on;
      text = t.text;
      bytes = e ∙ t.bytes_are;
      accepted = record { spelled = t.spelled; admitted = admitted };
    }

-- a mode replies
pub replied : (t : Option Table) (r : Request) (file : FileText) (P : Program) (s : Status) (u : List ℕ) → IsOnProgram r
    → IsSourceRead t (source_of r) file
    → ((bytes : Option (List ℕ)) → Shows most_bytes bytes file → IsTextOf bytes P) → IsAdmitted P → Replies r P s u
    → (words : List (List ℕ)) → IsRequest words r → HasAnswer t words s u
replied t r file P s u on read front admitted k words asks =
    let f = one_file t words r read.bytes asks read.are in
    record {
      files = f.0;
      told = f.1;
      answer = k words f.0 (asks_of words f.0 r P read.bytes asks on f.2
          (front read.bytes (program_shown r read.bytes file on read.shows)) admitted);
    }

-- a mode with a second file replies
pub replied_on : (t : Option Table) (r : Request) (file second : FileText) (name : List ℕ) (limit : ℕ) (P : Program)
    (s : Status) (u : List ℕ) → IsOnProgram r → IsSourceRead t (source_of r) file
    → ((bytes : Option (List ℕ)) → Shows most_bytes bytes file → IsTextOf bytes P) → IsAdmitted P
    → second_file r ≡ Some (name, limit) → IsFileRead (told t name) limit second → RepliesOnSecond r P second s u
    → (words : List (List ℕ)) → IsRequest words r → HasAnswer t words s u
replied_on t r file second name limit P s u on read front admitted is other k words asks =
    let f = two_files t words r read.bytes name limit other.bytes asks read.are is other.are in
    let asked =
    asks_of words f.files r P read.bytes asks on f.first
    (front read.bytes (program_shown r read.bytes file on read.shows)) admitted in
    record {
      files = f.files;
      told = f.told;
      answer = k name limit is other.bytes other.shows words f.files asked f.other;
    }

pub second_on_files : (r : Request) (x : List ℕ × ℕ) → second_file r ≡ Some x → IsOnFiles r
second_on_files (Stress n) x e = absurd cc
second_on_files r x e = tt

-- the request of a file is about files
pub names_file : (words : List (List ℕ)) (r : Request) → IsRequest words r → IsOnFiles r → NamesFile words
names_file words r asks on = record { request = r; asked = asks; on_files = λ n e. not_stress r n e on }
  where
    not_stress : (r : Request) (n : ℕ) → r ≡ Stress n → IsOnFiles r → ⊥
    not_stress r n e on = let made : IsOnFiles (Stress n) = subst IsOnFiles e on in made

pub both_ok : {A E : Type 0} (r : Result A E) (Q R S : A → Type 0) → IfOk r Q → IfOk r R → ((x : A) → Q x → R x → S x)
    → IfOk r S
both_ok (Ok x) Q R S q r f = f x q r
both_ok (Err e) Q R S q r f = tt

pub paths_reply : (P : Program) (u : List ℕ) → u ≡ listing P → (file : List ℕ) → Replies (Paths file) P Listed u
paths_reply P u e file words files asks = rw e (paths_listed asks)

-- the steps of a reply, as they are kept

pub late_refused : (file : FileText) (P : Program) (x : Refusal)
    → ((bytes : Option (List ℕ)) → Shows most_bytes bytes file → IsTextOf bytes P)
    → ((text : List ℕ) → IsText text P → IsFrontError (Some text) (Refused x)) → (bytes : Option (List ℕ))
    → Shows most_bytes bytes file → IsProgramRefused bytes x
late_refused file P x front k bytes shows = let t = front bytes shows in
    subst (λ o. IsProgramRefused o x) (sym t.bytes_are) (k t.text t.spelled)

-- the second file of a mode, and its limit

abbrev number_in_pair : Option (List ℕ × ℕ) → ℕ
number_in_pair None = 0
number_in_pair (Some x) = x.1

within_limit : (r : Request) (name : List ℕ) (most : ℕ) (file : FileText) → second_file r ≡ Some (name, most)
    → IsSecondWithin r file → IsNoLonger most file
within_limit r name most file is (other, limit, e, within) =
    subst (λ m. IsNoLonger m file) (ap number_in_pair (sym e ∙ is)) within

pub recheck_within : (file log : List ℕ) (second : FileText) → IsSecondWithin (Recheck file log) second
    → IsNoLonger most_logged second
recheck_within file log second h = within_limit (Recheck file log) log most_logged second refl h

pub replay_within : (file drawing : List ℕ) (second : FileText) → IsSecondWithin (Replay file drawing) second
    → IsNoLonger most_drawn second
replay_within file drawing second h = within_limit (Replay file drawing) drawing most_drawn second refl h

pub state_within : (file state : List ℕ) (n : ℕ) (second : FileText) → IsSecondWithin (Run file state n) second
    → IsNoLonger most_stated second
state_within file state n second h = within_limit (Run file state n) state most_stated second refl h

on_second : (r : Request) (name : List ℕ) (most : ℕ) (P : Program) (file : FileText) (s : Status) (u : List ℕ)
    → second_file r ≡ Some (name, most)
    → ((bytes : Option (List ℕ)) → Shows most bytes file → RepliesOn r P bytes s u) → RepliesOnSecond r P file s u
on_second r name most P file s u is k other limit e bytes shows =
    k bytes (subst (λ m. Shows m bytes file) (ap number_in_pair (sym e ∙ is)) shows)

pub recheck_replies : (file log : List ℕ) (P : Program) (second : FileText) (s : Status) (u : List ℕ)
    → ((bytes : Option (List ℕ)) → Shows most_logged bytes second → (file name : List ℕ)
    → RepliesOn (Recheck file name) P bytes s u)
    → RepliesOnSecond (Recheck file log) P second s u
recheck_replies file log P second s u k =
    on_second (Recheck file log) log most_logged P second s u refl (λ bytes shows. k bytes shows file log)

pub replay_replies : (file drawing : List ℕ) (P : Program) (second : FileText) (s : Status) (u : List ℕ)
    → ((bytes : Option (List ℕ)) → Shows most_drawn bytes second → (file name : List ℕ)
    → RepliesOn (Replay file name) P bytes s u)
    → RepliesOnSecond (Replay file drawing) P second s u
replay_replies file drawing P second s u k =
    on_second (Replay file drawing) drawing most_drawn P second s u refl (λ bytes shows. k bytes shows file drawing)

pub run_replies : (file state : List ℕ) (n : ℕ) (P : Program) (second : FileText) (s : Status) (u : List ℕ)
    → ((bytes : Option (List ℕ)) → Shows most_stated bytes second → (file name : List ℕ)
    → RepliesOn (Run file name n) P bytes s u)
    → RepliesOnSecond (Run file state n) P second s u
run_replies file state n P second s u k =
    on_second (Run file state n) state most_stated P second s u refl (λ bytes shows. k bytes shows file state)

-- what a mode answers, as an answer

check_row : (words : List (List ℕ)) (files : Files) (file : List ℕ) (P : Program) (s : Status) (u : List ℕ)
    → Asks words files (Check file) P → IsProgramVerdict P s u → Answer words files s u
check_row words files file P s u asks (all_valid v) = check_verified asks v
check_row words files file P s u asks (some_refuted f) = check_refuted asks f

pub check_replies : (file : List ℕ) (P : Program) (s : Status) (u : List ℕ) → IsProgramVerdict P s u
    → Replies (Check file) P s u
check_replies file P s u v words files asks = check_row words files file P s u asks v

-- what `check` answers for a text is a row
pub check_answers : (words : List (List ℕ)) (files : Files) (file : List ℕ) (s : Status) (u : List ℕ)
    → IsRequest words (Check file) → IsCheckText (files 1) s u → Answer words files s u
check_answers words files file s u asks (of_refusal x why) = refused {r = Check file} x asks tt why
check_answers words files file s u asks (of_verdict {text = text} {P = P} bytes accepted v) =
    check_row words files file P s u (check_asks words files file text P asks bytes accepted) v

session_row : (words : List (List ℕ)) (files : Files) (file : List ℕ) (bytes : Option (List ℕ)) (s : Status)
    (u : List ℕ) → IsRequest words (Session file) → files 1 ≡ bytes → IsSessionAnswer bytes s u → Answer words files s u
session_row words files file bytes s u asks is (file_refused why) = session_refused asks (rw is why)
session_row words files file bytes s u asks is (file_answered report) = session_listed asks (rw is report)

pub session_replied : (t : Option Table) (r : Request) (name : List ℕ) (file : FileText) (s : Status) (u : List ℕ)
    → r ≡ Session name → IsSourceRead t (source_of r) file
    → ((bytes : Option (List ℕ)) → Shows most_edited bytes file → IsSessionAnswer bytes s u) → (words : List (List ℕ))
    → IsRequest words r → HasAnswer t words s u
session_replied t r name file s u is read answer words asks =
    let read : IsSourceRead t (source_of (Session name)) file =
    subst (λ q. IsSourceRead t (source_of q) file) is read in
    let asks : IsRequest words (Session name) = subst (IsRequest words) is asks in
    let f = one_file t words (Session name) read.bytes asks read.are in
    record {
      files = f.0;
      told = f.1;
      answer = session_row words f.0 name read.bytes s u asks f.2 (answer read.bytes read.shows);
    }

pub session_within : (t : Option Table) (r : Request) (name : List ℕ) (file : FileText) → r ≡ Session name
    → IsSourceRead t (source_of r) file → IsNoLonger most_edited file
session_within t r name file is read =
    let read : IsSourceRead t (source_of (Session name)) file =
    subst (λ q. IsSourceRead t (source_of q) file) is read in read.within

pub on_program : (r : Request) → ((file : List ℕ) → r ≡ Session file → ⊥) → ((file : List ℕ) → r ≡ Entail file → ⊥)
    → IsOnProgram r
on_program (Session file) h k = absurd (h file refl)
on_program (Entail file) h k = absurd (k file refl)
on_program r h k = tt

-- What a run answers, what it leaves written, and what its verdict means.
use Rattle.std.specs.Prelude.{◌≡◌, ◌⊎◌, ◌≤◌, ◌<◌, ℕ, List, length, Option, Some, None, ⊤, true, false, slice_get, codes}
use Rattle.gh_base.specs.Outside.{Table}
use Rattle.gh_ast.specs.Plain.{Procedure, Program}
use Rattle.gh_ast.specs.Questions.{Question}
use Rattle.gh_machine.specs.Machine.{IsGood}
use Rattle.gh_path.specs.Conditions.{Condition, conditions, IsConditionAt, IsOf}
use Rattle.gh_trace.specs.Validity.{ListedAreValid}
use Rattle.gh_log.specs.Lines.{LogLine}
use Rattle.gh_log.specs.Spelled.{IsSpelled}
use Rattle.gh_log.specs.Texts.{log_text}
use Rattle.gh_decide.specs.Logs.{IsValidLog}
use Rattle.gh_draw.specs.Drawings.{line}
use Rattle.gh_top.specs.Words.{IsRequest, IsOnProgram}
use Rattle.gh_top.specs.Seen.{Writing, Outside, table_of, InputsCountRose, InputsCountStands, SinkCountRose}
use Rattle.gh_top.specs.Seen.{SinkCountStands, Writes, WritesFront, WritesNothing}
use Rattle.gh_top.specs.Stress.{stress_text}
use Rattle.gh_top.specs.Refusals.{IsAccepted, IsProgramRefused, refusal_text}
use Rattle.gh_top.specs.Reports.{IsRefutation, verified_text, stressed_text}
use Rattle.gh_top.specs.Smallests.{IsSmallestReport}
use Rattle.gh_top.specs.Listings.{listing}
use Rattle.gh_top.specs.Rechecks.{IsLogRefusal, IsValidLogFile, rechecked_text}
use Rattle.gh_top.specs.Replays.{IsDrawingRefusal, IsRefutingFile, replayed_text}
use Rattle.gh_top.specs.Sessions.{IsSessionRefusal, IsSessionReport}
use Rattle.gh_top.specs.Entails.{IsQuestionRefused, PosesAdmitted, IsEntailedReport, IsFailingReport}
use Rattle.gh_top.specs.Runs.{IsStateRefusal, IsRunFrom, unmet_text, stopped_text, fault_text, held_text, failed_text}
use Rattle.gh_trace.specs.declared.state.State.{State}
use Rattle.gh_run.specs.declared.simulate.Report.TheVariants as report
use Rattle.gh_top.specs.Smts.{IsDecidedByScript, most_asserted, asserted_count, smt_text, unnumbered_text}
use Rattle.gh_top.specs.Smts.{too_long_text}
use Rattle.gh_top.specs.declared.refusal.Refusal.{Refusal}
use Rattle.gh_top.specs.declared.words.Request.{Request}
use Rattle.gh_top.specs.declared.words.Request.TheVariants.{Check, Log, Recheck, Paths, Replay, Smallest, Stress, Smt}
use Rattle.gh_top.specs.declared.words.Request.TheVariants.{Run, Session, Entail}
use Rattle.gh_top.specs.declared.status.Status.{Status}
use Rattle.gh_top.specs.declared.status.Status.TheVariants.{Verified, Listed, Ran, Refuted, Usage, ReadFault}
use Rattle.gh_top.specs.declared.status.Status.TheVariants.{TextRefused, LogRefused, WriteFault, OutOfMemory, Stopped}
use Rattle.gh_top.specs.declared.status.Status.TheVariants.{Unmet}

-- The files that the words name, each by the place of its name among the words: file 1 is the first file, as the
-- program's, file 2 the log, the drawing or the state. A file is the bytes that it held when it was read, or none where
-- there was no such file.
abbrev pub Files : Type 0
Files = ℕ → Option (List ℕ)

-- where the inputs tell what each name holds, the files are that
abbrev pub AreAsTold : Option Table → List (List ℕ) → Files → Type 0
AreAsTold None words files = ⊤
AreAsTold (Some table) words files = (k : ℕ) (name : List ℕ) → slice_get words k ≡ Some name → files k ≡ table name

-- the text that a request is about: that of file 1; `stress` makes its own
abbrev pub asked_text : Request → Files → Option (List ℕ)
asked_text (Stress n) files = Some (stress_text n)
asked_text r files = files 1

-- the words are a request about a program, and its text spells the admitted program
pub record Asks (words : List (List ℕ)) (files : Files) (r : Request) (P : Program) : Type 0 where
  pub request : IsRequest words r
  pub on_program : IsOnProgram r
  pub text : List ℕ
  pub bytes : asked_text r files ≡ Some text
  pub accepted : IsAccepted text P

-- THE ANSWER: the status and the text that words and files give, a constructor for each case.
pub data Answer (words : List (List ℕ)) (files : Files) : Status → List ℕ → Type 0 where
  -- in any mode: the words are no request; about a program: its text is refused
  usage : ((r : Request) → IsRequest words r → ⊥) → Answer words files Usage (line (codes "refused: usage"))
  refused : {r : Request} (x : Refusal) → IsRequest words r → IsOnProgram r → IsProgramRefused (asked_text r files) x
      → Answer words files TextRefused (refusal_text x)
  -- check FILE
  check_verified : {f : List ℕ} {P : Program} → Asks words files (Check f) P → ListedAreValid P
      → Answer words files Verified (verified_text P)
  check_refuted : {f u : List ℕ} {P : Program} → Asks words files (Check f) P → IsRefutation P u
      → Answer words files Refuted u
  -- log FILE
  log_verified : {f : List ℕ} {P : Program} (log : List (List LogLine)) → Asks words files (Log f) P → ListedAreValid P
      → IsValidLog P log → IsSpelled 2 log → Answer words files Verified (log_text 2 log)
  log_refuted : {f u : List ℕ} {P : Program} → Asks words files (Log f) P → IsRefutation P u
      → Answer words files Refuted u
  -- recheck FILE LOG
  recheck_refused : {f l u : List ℕ} {P : Program} → Asks words files (Recheck f l) P → IsLogRefusal P (files 2) u
      → Answer words files LogRefused u
  recheck_verified : {f l : List ℕ} {P : Program} → Asks words files (Recheck f l) P → IsValidLogFile P (files 2)
      → Answer words files Verified (rechecked_text P)
  -- paths FILE
  paths_listed : {f : List ℕ} {P : Program} → Asks words files (Paths f) P → Answer words files Listed (listing P)
  -- replay FILE DRAWING
  replay_refused : {f d u : List ℕ} {P : Program} → Asks words files (Replay f d) P → IsDrawingRefusal P (files 2) u
      → Answer words files LogRefused u
  replay_refuted : {f d : List ℕ} {n : ℕ} {P : Program} → Asks words files (Replay f d) P → IsRefutingFile P (files 2) n
      → Answer words files Refuted (replayed_text P n)
  -- smallest FILE
  smallest_verified : {f : List ℕ} {P : Program} → Asks words files (Smallest f) P → ListedAreValid P
      → Answer words files Verified (verified_text P)
  smallest_refuted : {f u : List ℕ} {P : Program} → Asks words files (Smallest f) P → IsSmallestReport P u
      → Answer words files Refuted u
  -- stress N
  stress_verified : {n : ℕ} {P : Program} → Asks words files (Stress n) P → ListedAreValid P
      → Answer words files Verified (stressed_text n P)
  stress_refuted : {n : ℕ} {u : List ℕ} {P : Program} → Asks words files (Stress n) P → IsRefutation P u
      → Answer words files Refuted u
  -- smt FILE K
  smt_listed : {f : List ℕ} {n : ℕ} {P : Program} (proc : Procedure) (c : Condition) → Asks words files (Smt f n) P
      → IsConditionAt P n c → IsOf P c proc → asserted_count P proc c ≤ most_asserted → IsDecidedByScript P proc c
      → Answer words files Listed (smt_text P proc c)
  smt_no_condition : {f : List ℕ} {n : ℕ} {P : Program} → Asks words files (Smt f n) P → length (conditions P) < n
      → Answer words files LogRefused (unnumbered_text P n)
  smt_too_long : {f : List ℕ} {n : ℕ} {P : Program} (proc : Procedure) (c : Condition) → Asks words files (Smt f n) P
      → IsConditionAt P n c → IsOf P c proc → most_asserted < asserted_count P proc c
      → Answer words files TextRefused (too_long_text P proc c)
  -- run FILE STATE N
  run_refused : {f x u : List ℕ} {n : ℕ} {P : Program} → Asks words files (Run f x n) P → IsStateRefusal P (files 2) u
      → Answer words files LogRefused u
  run_unmet : {f x : List ℕ} {n : ℕ} {P : Program} → Asks words files (Run f x n) P
      → IsRunFrom P (files 2) n report.Unmet → Answer words files Unmet unmet_text
  run_stopped : {f x : List ℕ} {n : ℕ} {P : Program} (k : ℕ) (s : State) → Asks words files (Run f x n) P
      → IsRunFrom P (files 2) n (report.Stopped k s) → Answer words files Stopped (stopped_text k s)
  run_faulted : {f x : List ℕ} {n : ℕ} {P : Program} (k : ℕ) (s : State) → Asks words files (Run f x n) P
      → IsRunFrom P (files 2) n (report.Faulted k s) → Answer words files Refuted (fault_text k s)
  run_held : {f x : List ℕ} {n : ℕ} {P : Program} (k : ℕ) (s : State) → Asks words files (Run f x n) P
      → IsRunFrom P (files 2) n (report.Ended k s true) → Answer words files Ran (held_text k s)
  run_failed : {f x : List ℕ} {n : ℕ} {P : Program} (k : ℕ) (s : State) → Asks words files (Run f x n) P
      → IsRunFrom P (files 2) n (report.Ended k s false) → Answer words files Refuted (failed_text k s)
  -- session FILE
  session_refused : {f u : List ℕ} → IsRequest words (Session f) → IsSessionRefusal (files 1) u
      → Answer words files LogRefused u
  session_listed : {f u : List ℕ} → IsRequest words (Session f) → IsSessionReport (files 1) u
      → Answer words files Listed u
  -- entail FILE
  entail_refused : {f : List ℕ} (x : Refusal) → IsRequest words (Entail f) → IsQuestionRefused (files 1) x
      → Answer words files TextRefused (refusal_text x)
  entail_verified : {f u : List ℕ} {q : Question} → IsRequest words (Entail f) → PosesAdmitted (files 1) q
      → IsEntailedReport q u → Answer words files Verified u
  entail_refuted : {f u : List ℕ} {q : Question} → IsRequest words (Entail f) → PosesAdmitted (files 1) q
      → IsFailingReport q u → Answer words files Refuted u

-- some files that are told give this answer
pub record HasAnswer (table : Option Table) (words : List (List ℕ)) (status : Status) (text : List ℕ) : Type 0 where
  pub files : Files
  pub told : AreAsTold table words files
  pub answer : Answer words files status text

-- the program that the words ask about is good: no run of any procedure from a state that meets its precondition,
-- beside any frame, faults, leaks or ends outside its postcondition
abbrev pub IsGoodFor : List (List ℕ) → Files → Type 0
IsGoodFor words files = (r : Request) (P : Program) → Asks words files r P → IsGood P

-- exactly one text was written, it is the answer, and what is verified is good
pub record IsWrittenWhole (table : Option Table) (words : List (List ℕ)) (w : Writing) (status : Status) : Type 0 where
  pub text : List ℕ
  pub given : HasAnswer table words status text
  pub written : Writes w text
  pub good : status ≡ Verified → IsGoodFor words given.files

-- THE SENTENCE, 1: but for a fault, the answer is written whole; where memory runs out, nothing is
abbrev pub IsAnswered : List (List ℕ) → Outside → Status → Type 0
IsAnswered words o ReadFault = ⊤
IsAnswered words o WriteFault = ⊤
IsAnswered words o OutOfMemory = WritesNothing o.writing
IsAnswered words o status = IsWrittenWhole (table_of o) words o.writing status

-- the words name a file
pub record NamesFile (words : List (List ℕ)) : Type 0 where
  pub request : Request
  pub asked : IsRequest words request
  pub on_files : (n : ℕ) → request ≡ Stress n → ⊥

-- 2: a read fault comes only where the words name a file and the inputs' count of faults rose, and nothing is written;
-- else the count stands still
abbrev pub IsReadFault : List (List ℕ) → Outside → Status → Type 0
IsReadFault words o ReadFault = NamesFile words × InputsCountRose o.reading × WritesNothing o.writing
IsReadFault words o status = InputsCountStands o.reading

-- a front of an answer's text was written
pub record IsCutOff (table : Option Table) (words : List (List ℕ)) (w : Writing) : Type 0 where
  pub status : Status
  pub text : List ℕ
  pub given : HasAnswer table words status text
  pub written : WritesFront w text

-- 3: a write fault comes only where the sink's count of faults rose, and a front of an answer is written; else the
-- count stands still
abbrev pub IsWriteFault : List (List ℕ) → Outside → Status → Type 0
IsWriteFault words o WriteFault = SinkCountRose o.writing × IsCutOff (table_of o) words o.writing
IsWriteFault words o status = SinkCountStands o.writing

-- the answer is written whole, or memory runs out
abbrev pub IsWrittenWholeOrOutOfMemory : Option Table → List (List ℕ) → Writing → Status → Type 0
IsWrittenWholeOrOutOfMemory table words w status = (status ≡ OutOfMemory) ⊎ IsWrittenWhole table words w status

-- 4: where neither count rises, a lack of memory alone keeps the answer from being written whole
abbrev pub IsComplete : List (List ℕ) → Outside → Status → Type 0
IsComplete words o status =
    (InputsCountRose o.reading → ⊥) → (SinkCountRose o.writing → ⊥)
    → IsWrittenWholeOrOutOfMemory (table_of o) words o.writing status

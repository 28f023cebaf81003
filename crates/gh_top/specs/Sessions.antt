-- Sessions over edited texts: why a session file is refused, and what is answered after each edit that asks.
use Rattle.std.specs.Prelude.{◌≡◌, ℕ, suc, ◌<◌, ◌≤◌, List, [], ◌∷◌, ◌++◌, length, take, cond, codes, Option, Some, None}
use Rattle.std.specs.Fmt.{decimal}
use Rattle.gh_ast.specs.Plain.{Program}
use Rattle.gh_path.specs.Conditions.{Condition, conditions}
use Rattle.gh_trace.specs.Validity.{IsConditionValid, ListedAreValid}
use Rattle.gh_session.specs.declared.edits.Edit.{Edit}
use Rattle.gh_session.specs.declared.edits.Edits.{Edits}
use Rattle.gh_session.specs.declared.error.SessionError.TheVariants.{Line, TooMany}
use Rattle.gh_session.specs.Decided.{AreEssences, AreNew}
use Rattle.gh_session.specs.Essences.{Essence}
use Rattle.gh_session.specs.Lines as lines
use Rattle.gh_session.specs.Pieces.{whole}
use Rattle.gh_draw.specs.Drawings.{line}
use Rattle.gh_top.specs.Checks.{IsCheckText}
use Rattle.gh_top.specs.Refusals.{IsAccepted, IsProgramRefused}
use Rattle.gh_top.specs.Reports.{IsReached}
use Rattle.gh_top.specs.declared.refusal.Refusal.{Refusal}
use Rattle.gh_top.specs.declared.status.Status.{Status}
use Rattle.gh_top.specs.declared.status.Status.TheVariants.{Listed, LogRefused}

-- the longest session file that is taken
abbrev pub most_edited : ℕ
most_edited = 4194304

-- why a session file is refused: it is absent, too long, a line that begins with `%` is no separator, or there are too
-- many separators
pub data IsSessionRefusal : Option (List ℕ) → List ℕ → Type 0 where
  absent : IsSessionRefusal None (line (codes "refused: session Absent"))
  too_long : {text : List ℕ} → most_edited < length text
      → IsSessionRefusal (Some text) (line (codes "refused: session TooLong"))
  bad_line : {text : List ℕ} (k : ℕ) → length text ≤ most_edited → lines.IsFirstBad text (Line k)
      → IsSessionRefusal (Some text) (line (codes "refused: session line " ++ decimal k))
  too_many : {text : List ℕ} (k : ℕ) → length text ≤ most_edited → lines.IsFirstBad text (TooMany k)
      → IsSessionRefusal (Some text) (line (codes "refused: session TooMany at line " ++ decimal k))

-- the conditions of a program up to the first that isn't valid, or to the last
pub data AreAsked (P : Program) : List Condition → Type 0 where
  to_last : ListedAreValid P → AreAsked P (conditions P)
  to_first : (k : ℕ) (c : Condition) → IsReached P k c → (IsConditionValid P c → ⊥) → AreAsked P (take k (conditions P))

-- n different essences of these conditions are new, and are kept after those that were
pub record IsKeptToo (P : Program) (cs : List Condition) (old : List Essence) (n : ℕ)
    (kept : List Essence) : Type 0 where
  pub all : List Essence
  pub are : AreEssences P cs all
  pub new : List Essence
  pub are_new : AreNew old all new
  pub count : n ≡ length new
  pub whole : kept ≡ old ++ new

-- how many essences are decided for a text where the old ones are kept, and what is kept then; none is decided where
-- the text is refused
pub data CountsDecided (text : List ℕ) (old : List Essence) : ℕ → List Essence → Type 0 where
  of_refused : (x : Refusal) → IsProgramRefused (Some text) x → CountsDecided text old 0 old
  of_decided : {P : Program} {cs : List Condition} {n : ℕ} {kept : List Essence}
      → IsAccepted text P → AreAsked P cs → IsKeptToo P cs old n kept → CountsDecided text old n kept

-- the texts that are asked about: for each edit that asks, the text of all edits up to it, with `before` in front
abbrev pub texts_after : List ℕ → List Edit → List Edit → List (List ℕ)
texts_after head before [] = []
texts_after head before (e ∷ es) =
    cond e.asks (whole head (before ++ e ∷ []) ∷ texts_after head (before ++ e ∷ []) es)
    (texts_after head (before ++ e ∷ []) es)

-- `answer J, D decided`
abbrev pub answer_line : ℕ → ℕ → List ℕ
answer_line j n = line (codes "answer " ++ decimal j ++ codes ", " ++ decimal n ++ codes " decided")

-- the answers to some texts in order, after so many others: each is its line, and then what `check` answers for the
-- text
pub data AreAnswers : ℕ → List Essence → List (List ℕ) → List ℕ → Type 0 where
  no_more : {j : ℕ} {kept : List Essence} → AreAnswers j kept [] []
  one_more : {j n : ℕ} {old kept : List Essence} {text u rest : List ℕ} {texts : List (List ℕ)} {s : Status}
      → IsCheckText (Some text) s u → CountsDecided text old n kept → AreAnswers (suc j) kept texts rest
      → AreAnswers j old (text ∷ texts) (answer_line (suc j) n ++ u ++ rest)

-- the text is all answers of a session file
pub record IsSessionReport (bytes : Option (List ℕ)) (u : List ℕ) : Type 0 where
  pub text : List ℕ
  pub bytes_are : bytes ≡ Some text
  pub short : length text ≤ most_edited
  pub edits : Edits
  pub read : lines.IsSession text edits
  pub answers : AreAnswers 0 [] (texts_after edits.head [] edits.edits.items) u

-- the status and the text for a session file
pub data IsSessionAnswer (bytes : Option (List ℕ)) : Status → List ℕ → Type 0 where
  file_refused : {u : List ℕ} → IsSessionRefusal bytes u → IsSessionAnswer bytes LogRefused u
  file_answered : {u : List ℕ} → IsSessionReport bytes u → IsSessionAnswer bytes Listed u

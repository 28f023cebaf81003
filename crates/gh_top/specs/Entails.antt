-- The mode `entail`: texts of questions, their refusals, and the reports.
use Rattle.std.specs.Prelude.{◌≡◌, ℕ, ◌<◌, ◌≤◌, List, [], ◌∷◌, ◌++◌, length, codes, Option, Some, None}
use Rattle.gh_ast.specs.Programs.{names}
use Rattle.gh_ast.specs.Questions.{Question}
use Rattle.gh_ast.specs.QuestionGrammar.{Poses, IsQuestion}
use Rattle.gh_ast.specs.Place.{IsPlace}
use Rattle.gh_ast.specs.Tokens.{IsFirstByte}
use Rattle.gh_assert.specs.Heaps.{IsProper}
use Rattle.gh_trace.specs.Traces.{State}
use Rattle.gh_log.specs.Lines.{LogLine}
use Rattle.gh_log.specs.Sections.{IsValidSection}
use Rattle.gh_log.specs.Spelled.{IsSpelled}
use Rattle.gh_log.specs.Texts.{log_text}
use Rattle.gh_draw.specs.Drawings.{line, drawing, IsDrawable}
use Rattle.gh_entail.specs.Meaning.{IsEntailed, Fails}
use Rattle.gh_entail.specs.Rules.{IsTyped, IsFirstBroken}
use Rattle.gh_entail.specs.Limits.{IsLimit}
use Rattle.gh_entail.specs.Formulas.{question_problem}
use Rattle.gh_entail.specs.Asked.{IsAdmitted}
use Rattle.gh_ast.specs.Limits.{most_bytes}
use Rattle.gh_top.specs.Refusals.{IsReadable, IsDeepAt}
use Rattle.gh_top.specs.Rules.{rule_number}
use Rattle.gh_top.specs.declared.refusal.Refusal.{Refusal}
use Rattle.gh_top.specs.declared.refusal.Refusal.TheVariants.{Absent, TooLong, Byte, Deep, Syntax, TypeError, Limit}

-- the text is readable, and poses the question
pub record IsQuestionText (text : List ℕ) (q : Question) : Type 0 where
  pub readable : IsReadable text
  pub poses : Poses text q

-- the first refusal of the bytes of a question's text, in the same order as those of a program text
abbrev pub IsQuestionRefused : Option (List ℕ) → Refusal → Type 0
IsQuestionRefused bytes Absent = bytes ≡ None
IsQuestionRefused bytes TooLong = (text : List ℕ) × (bytes ≡ Some text) × (most_bytes < length text)
IsQuestionRefused bytes (Byte k) =
    (text : List ℕ) × (bytes ≡ Some text) × (length text ≤ most_bytes) × IsFirstByte text k
IsQuestionRefused bytes (Deep p) = (text : List ℕ) × (bytes ≡ Some text) × IsDeepAt text p
IsQuestionRefused bytes (Syntax p) =
    (text : List ℕ) × (bytes ≡ Some text) × IsReadable text × ((q : Question) → Poses text q → ⊥)
    × IsPlace IsQuestion text p
IsQuestionRefused bytes (TypeError r p) =
    (text : List ℕ) × (q : Question) × (bytes ≡ Some text) × IsQuestionText text q × IsFirstBroken q (rule_number r) p
IsQuestionRefused bytes (Limit l) =
    (text : List ℕ) × (q : Question) × (bytes ≡ Some text) × IsQuestionText text q × IsTyped q × IsLimit q l

-- the bytes are a text that poses the admitted question
pub record PosesAdmitted (bytes : Option (List ℕ)) (q : Question) : Type 0 where
  pub text : List ℕ
  pub bytes_are : bytes ≡ Some text
  pub posed : IsQuestionText text q
  pub admitted : IsAdmitted q

-- the question is entailed; the text is the word `entailed`, and a log of version 2 whose one section is valid for
-- the question's clauses
pub record IsEntailedReport (q : Question) (text : List ℕ) : Type 0 where
  pub entailed : IsEntailed q
  pub section : List LogLine
  pub valid : IsValidSection (question_problem q) section
  pub spelled : IsSpelled 2 (section ∷ [])
  pub text_is : text ≡ line (codes "entailed") ++ log_text 2 (section ∷ [])

-- the left claim holds in a state and the right one doesn't; the text says that the question isn't entailed, and
-- draws the state
pub record IsFailingReport (q : Question) (text : List ℕ) : Type 0 where
  pub state : State
  pub proper : IsProper state.heap
  pub fails : Fails q state.store state.heap
  pub drawable : IsDrawable (names q.variables) state
  pub text_is : text ≡ line (codes "not entailed") ++ drawing 1 (names q.variables) (state ∷ [])

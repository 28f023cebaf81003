-- What `entail` answers for the file of a question.
use Rattle.std.specs.Prelude.{◌≡◌, ℕ, List, Option, ⊤}
use Rattle.gh_ast.specs.Questions.{Question}
use Rattle.gh_entail.specs.declared.admit.AskError.{AskError}
use Rattle.gh_entail.specs.declared.admit.AskError.TheVariants as asking
use Rattle.gh_top.specs.Entails.{IsQuestionRefused, IsEntailedReport, IsFailingReport}
use Rattle.gh_top.specs.Headline.{Files, Answer}
use Rattle.gh_top.specs.Rules.{rule_of}
use Rattle.gh_top.specs.Words.{IsRequest}
use Rattle.gh_top.specs.declared.front.FrontError.{FrontError}
use Rattle.gh_top.specs.declared.front.FrontError.TheVariants.{Refused, OutOfMemory}
use Rattle.gh_top.specs.declared.refusal.Refusal.TheVariants.{TypeError, Limit}
use Rattle.gh_top.specs.declared.status.Status.{Status}
use Rattle.gh_top.specs.declared.status.Status.TheVariants.{Verified, Refuted}
use Rattle.gh_top.specs.declared.words.Request.TheVariants.{Entail}

abbrev pub of_ask : AskError → FrontError
of_ask (asking.TypeError number span) = Refused (TypeError (rule_of number) span)
of_ask (asking.Limit passed) = Refused (Limit passed)
of_ask asking.OutOfMemory = OutOfMemory

-- the refusal is the first one of the bytes
abbrev pub IsQuestionFrontError : Option (List ℕ) → FrontError → Type 0
IsQuestionFrontError bytes (Refused refusal) = IsQuestionRefused bytes refusal
IsQuestionFrontError bytes OutOfMemory = ⊤

-- the status and the text for an admitted question
pub data IsReplyTo (q : Question) : Status → List ℕ → Type 0 where
  entailed : {u : List ℕ} → IsEntailedReport q u → IsReplyTo q Verified u
  failing : {u : List ℕ} → IsFailingReport q u → IsReplyTo q Refuted u

-- for all words that ask about a question, and files of which the first is these bytes, this is the answer
abbrev pub RepliesToQuestion : Option (List ℕ) → Status → List ℕ → Type 0
RepliesToQuestion bytes status text =
    (f : List ℕ) (words : List (List ℕ)) (files : Files) → IsRequest words (Entail f) → files 1 ≡ bytes
    → Answer words files status text

-- What is known of a text from how its file was read: it holds of whichever bytes the file had.
use Rattle.std.specs.Prelude.{ℕ, List, Option}
use Rattle.gh_ast.specs.Plain.{Program}
use Rattle.gh_ast.specs.Questions.{Question}
use Rattle.gh_top.specs.Entails.{PosesAdmitted}
use Rattle.gh_top.specs.Files.{Shows}
use Rattle.gh_top.specs.Fronts.{IsTextOf, IsFrontError}
use Rattle.gh_top.specs.QuestionReplies.{IsQuestionFrontError, RepliesToQuestion}
use Rattle.gh_ast.specs.Limits.{most_bytes}
use Rattle.gh_top.specs.Sessions.{most_edited, IsSessionAnswer}
use Rattle.gh_top.specs.declared.file.FileText.{FileText}
use Rattle.gh_top.specs.declared.front.FrontError.{FrontError}
use Rattle.gh_top.specs.declared.status.Status.{Status}

-- the file's bytes are a text that spells the program
abbrev pub SpellsProgram : FileText → Program → Type 0
SpellsProgram file P = (bytes : Option (List ℕ)) → Shows most_bytes bytes file → IsTextOf bytes P

-- the refusal is the first one of the file's bytes as a program text
abbrev pub IsFileFrontError : FileText → FrontError → Type 0
IsFileFrontError file e = (bytes : Option (List ℕ)) → Shows most_bytes bytes file → IsFrontError bytes e

-- the file's bytes are a text that poses the admitted question
abbrev pub PosesQuestion : FileText → Question → Type 0
PosesQuestion file q = (bytes : Option (List ℕ)) → Shows most_bytes bytes file → PosesAdmitted bytes q

-- the refusal is the first one of the file's bytes as a question's text
abbrev pub IsFileQuestionError : FileText → FrontError → Type 0
IsFileQuestionError file e = (bytes : Option (List ℕ)) → Shows most_bytes bytes file → IsQuestionFrontError bytes e

-- this is the answer wherever a question of the file's bytes is asked
abbrev pub RepliesToQuestionFile : FileText → Status → List ℕ → Type 0
RepliesToQuestionFile file status text =
    (bytes : Option (List ℕ)) → Shows most_bytes bytes file → RepliesToQuestion bytes status text

-- this is the answer for a session file of the file's bytes
abbrev pub RepliesToSessionFile : FileText → Status → List ℕ → Type 0
RepliesToSessionFile file status text =
    (bytes : Option (List ℕ)) → Shows most_edited bytes file → IsSessionAnswer bytes status text

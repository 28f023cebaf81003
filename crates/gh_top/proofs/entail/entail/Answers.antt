use Rattle.std.proofs.Common.{List, ℕ}
use Rattle.std.specs.Prelude.{Option}
use Rattle.std.proofs.lemmas.Result.{IfOk-weaker}
use Rattle.gh_ast.specs.Questions.{question_of}
use Rattle.gh_top.specs.Files.{Shows}
use Rattle.gh_top.specs.QuestionReplies.{RepliesToQuestion}
use Rattle.gh_ast.specs.Limits.{most_bytes}
use Rattle.gh_top.proofs.HeadlineLemmas.{both_ok}
use Rattle.gh_top.proofs.QuestionLemmas.{decided_replies, refused_replies}
use Rattle.gh_top.proofs.entail.entail.Goals as goal

pub returns-in-Ok : goal.returns-in-Ok
returns-in-Ok c =
    IfOk-weaker c.decided.result _ _
    (λ r k. decided_replies (question_of c.in-Ok.asked.question) c.args.file.now r.status r.text
    c.in-Ok.ensures.posed k) c.decided.ensures

pub returns-in-Err-Refused : goal.returns-in-Err-Refused
returns-in-Err-Refused c =
    both_ok c.refused.result _ _
    (λ r. (bytes : Option (List ℕ)) → Shows most_bytes bytes c.args.file.now
    → RepliesToQuestion bytes r.status r.text) c.refused.ensures.status c.refused.ensures.text
    (λ r s t. refused_replies c.args.file.now c.in-Err-Refused.refusal r.status r.text
    (rw c.in-Err-Refused.field-0-is at c.in-Err-Refused.ensures.refused) s t)

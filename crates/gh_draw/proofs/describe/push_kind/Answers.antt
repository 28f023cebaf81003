use Rattle.std.proofs.Common.{◌∙◌, ◌++◌, ap, subst}
use Rattle.std.proofs.lemmas.Result.{IfOk-weaker}
use Rattle.gh_ast.specs.Plain.{program_of}
use Rattle.gh_draw.specs.Kept.{HasKind, TellsKind}
use Rattle.gh_draw.proofs.Told.{tells_callee}
use Rattle.gh_draw.proofs.describe.push_kind.Goals as goal

pub returns-in_ok-push-in-CalleeEntry : goal.returns-in_ok-push-in-CalleeEntry
returns-in_ok-push-in-CalleeEntry c =
    IfOk-weaker c.push-in-CalleeEntry-2.result _
    (λ x. TellsKind (program_of c.args.program.now) c.args.kind.now c.args.text.now c.push-in-CalleeEntry-2.new.self)
    (λ r added. rw c.in-CalleeEntry.is
    (tells_callee c.args.program.now c.in-CalleeEntry.callee c.in-CalleeEntry.arguments c.index.result.now
    c.args.text.now c.push-in-CalleeEntry.new.self c.push-in-CalleeEntry-2.new.self
    (subst (HasKind (program_of c.args.program.now)) c.in-CalleeEntry.is c.requires) c.index.ensures
    c.in_ok-push-in-CalleeEntry.ensures.ok
    (added ∙ ap (λ t. c.push-in-CalleeEntry.new.self ++ t) c.bytes-in-CalleeEntry.ensures.text)))
    c.push-in-CalleeEntry-2.ensures.ok

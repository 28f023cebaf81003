use Rattle.std.proofs.Common.{subst}
use Rattle.std.proofs.lemmas.Result.{IfOk-weaker}
use Rattle.gh_ast.specs.Plain.{procedure_of}
use Rattle.gh_draw.specs.Kept.{HasStart, TellsStart}
use Rattle.gh_draw.proofs.Told.{tells_loop}
use Rattle.gh_draw.proofs.describe.push_start.Goals as goal

pub returns-in_ok-push-in-Loop : goal.returns-in_ok-push-in-Loop
returns-in_ok-push-in-Loop c =
    IfOk-weaker c.push_place.result _
    (λ x. TellsStart (procedure_of c.args.procedure.now) c.args.start c.args.text.now c.push_place.new.text)
    (λ r added. rw c.in-Loop.is
    (tells_loop c.args.procedure.now c.in-Loop.number c.in_ok-loops-in-Loop.loops.items c.index.result.now
    c.args.text.now c.push-in-Loop.new.self c.push_place.new.text c.in_ok-loops-in-Loop.ensures
    (subst (HasStart (procedure_of c.args.procedure.now)) c.in-Loop.is c.requires) c.index.ensures
    c.in_ok-push-in-Loop.ensures.ok added)) c.push_place.ensures

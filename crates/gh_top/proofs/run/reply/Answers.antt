use Rattle.std.proofs.lemmas.Result.{IfOk-from_err}
use Rattle.gh_top.specs.Causes.{IsOnFiles}
use Rattle.gh_top.specs.Seen.{reading}
use Rattle.gh_top.proofs.FileLemmas.{stopped_early}
use Rattle.gh_top.proofs.HeadlineLemmas.{session_replied}
use Rattle.gh_top.proofs.QuestionLemmas.{question_answer}
use Rattle.gh_top.proofs.ReadLemmas.{first_ordered}
use Rattle.gh_top.proofs.run.reply.Goals as goal

pub returns-in_err-text-clause-order : goal.returns-in_err-text-clause-order
returns-in_err-text-clause-order g c = first_ordered c.args.request.now _ c.first_text.ensures.first

pub returns-in_err-session-clause-order : goal.returns-in_err-session-clause-order
returns-in_err-session-clause-order g c = first_ordered c.args.request.now _ c.first_text.ensures.first

pub returns-in-Session-clause-order : goal.returns-in-Session-clause-order
returns-in-Session-clause-order g c = first_ordered c.args.request.now _ c.first_text.ensures.first

pub returns-in-Session-clause-ok : goal.returns-in-Session-clause-ok
returns-in-Session-clause-ok g c =
    session_replied (g.I.Inputs.table c.args.inputs.now) c.args.request.now c.in-Session.file c.in_ok-text.text _ _
    c.in-Session.is c.in_ok-text.ensures.read c.in_ok-session.ensures

pub returns-in_err-entail : goal.returns-in_err-entail
returns-in_err-entail g c =
    record {
      ok = IfOk-from_err c.from_residual-in_err-entail.result _ c.from_residual-in_err-entail.ensures.0;
      cause =
          stopped_early (IsOnFiles c.args.request.now) (reading g.I.Inputs c.args.inputs.now c.first_text.new.inputs)
          c.from_residual-in_err-entail.result
          c.from_residual-in_err-entail.ensures.1 c.in_ok-text.ensures.cause;
      order = first_ordered c.args.request.now _ c.first_text.ensures.first;
    }

pub returns-in-Entail : goal.returns-in-Entail
returns-in-Entail g c =
    record {
      ok = question_answer (g.I.Inputs.table c.args.inputs.now) c.args.request.now c.in-Entail.file c.in_ok-text.text _
          _ c.in-Entail.is c.in_ok-text.ensures.read c.in_ok-entail.ensures;
      cause = c.in_ok-text.ensures.cause;
      order = first_ordered c.args.request.now _ c.first_text.ensures.first;
    }

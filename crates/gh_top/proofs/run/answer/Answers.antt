use Rattle.std.proofs.lemmas.Result.{IfOk-weaker}
use Rattle.gh_top.specs.Causes.{IsOnFiles}
use Rattle.gh_top.specs.Headline.{NamesFile}
use Rattle.gh_top.specs.Seen.{reading}
use Rattle.gh_top.proofs.FileLemmas.{cause_for}
use Rattle.gh_top.proofs.HeadlineLemmas.{usage_answer, names_file}
use Rattle.gh_top.proofs.ReadLemmas.{none_ordered}
use Rattle.gh_top.proofs.run.answer.Goals as goal

pub returns-in-Some-clause-ok : goal.returns-in-Some-clause-ok
returns-in-Some-clause-ok g c =
    let asked = rw c.in-Some.is at c.in_ok-request.ensures in
    IfOk-weaker c.reply.result _ _ (λ r k. k c.args.words.now asked) c.reply.ensures.ok

pub returns-in-Some-clause-cause : goal.returns-in-Some-clause-cause
returns-in-Some-clause-cause g c =
    let asked = rw c.in-Some.is at c.in_ok-request.ensures in
    let r = reading g.I.Inputs c.args.inputs.now c.reply.new.inputs in
    cause_for (IsOnFiles c.in-Some.request) (NamesFile c.args.words.now) r c.reply.result
    (names_file c.args.words.now c.in-Some.request asked) c.reply.ensures.cause

pub returns-in_ok-plain_line-in-None-clause-ok : goal.returns-in_ok-plain_line-in-None-clause-ok
returns-in_ok-plain_line-in-None-clause-ok g c =
    let none = rw c.in-None.is at c.in_ok-request.ensures in
    usage_answer (g.I.Inputs.table c.args.inputs.now) c.args.words.now c.in_ok-plain_line-in-None.field-0 none
    c.in_ok-plain_line-in-None.ensures

pub returns-in_err-request-clause-order : goal.returns-in_err-request-clause-order
returns-in_err-request-clause-order g c = none_ordered c.args.words.now _

pub returns-in_err-plain_line-in-None-clause-order : goal.returns-in_err-plain_line-in-None-clause-order
returns-in_err-plain_line-in-None-clause-order g c = none_ordered c.args.words.now _

pub returns-in_ok-plain_line-in-None-clause-order : goal.returns-in_ok-plain_line-in-None-clause-order
returns-in_ok-plain_line-in-None-clause-order g c = none_ordered c.args.words.now _

pub returns-in-Some-clause-order : goal.returns-in-Some-clause-order
returns-in-Some-clause-order g c = c.reply.ensures.order c.args.words.now (rw c.in-Some.is at c.in_ok-request.ensures)

use Rattle.std.proofs.lemmas.Result.{IfOk-weaker}
use Rattle.gh_ast.specs.Plain.{program_of}
use Rattle.gh_top.proofs.HeadlineLemmas.{check_replies}
use Rattle.gh_top.proofs.run.reply_on_one.Goals as goal

pub returns-in-Check : goal.returns-in-Check
returns-in-Check c =
    IfOk-weaker c.check.result _ _
    (λ r k. rw c.in-Check.is (check_replies c.in-Check.file (program_of c.args.admitted.now) r.status r.text k))
    c.check.ensures

pub returns-in-Log : goal.returns-in-Log
returns-in-Log c = IfOk-weaker c.log.result _ _ (λ r k. rw c.in-Log.is (k c.in-Log.file)) c.log.ensures

pub returns-in-Paths : goal.returns-in-Paths
returns-in-Paths c = IfOk-weaker c.paths.result _ _ (λ r k. rw c.in-Paths.is (k c.in-Paths.file)) c.paths.ensures

pub returns-in-Smallest : goal.returns-in-Smallest
returns-in-Smallest c =
    IfOk-weaker c.smallest.result _ _ (λ r k. rw c.in-Smallest.is (k c.in-Smallest.file)) c.smallest.ensures

pub smt-requires : goal.smt-requires
smt-requires c = (rw c.in-Smt.is at c.requires.limits).0

pub returns-in-Smt : goal.returns-in-Smt
returns-in-Smt c = IfOk-weaker c.smt.result _ _ (λ r k. rw c.in-Smt.is (k c.in-Smt.file)) c.smt.ensures

pub returns-in-Stress : goal.returns-in-Stress
returns-in-Stress c = IfOk-weaker c.stress.result _ _ (λ r k. rw c.in-Stress.is k) c.stress.ensures

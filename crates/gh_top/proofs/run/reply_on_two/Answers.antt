use Rattle.std.proofs.lemmas.Result.{IfOk-weaker}
use Rattle.gh_ast.specs.Plain.{program_of}
use Rattle.gh_top.proofs.HeadlineLemmas.{recheck_within, replay_within, state_within, recheck_replies, replay_replies}
use Rattle.gh_top.proofs.HeadlineLemmas.{run_replies}
use Rattle.gh_top.proofs.run.reply_on_two.Goals as goal

pub recheck-requires : goal.recheck-requires
recheck-requires c = record {
  within = recheck_within c.in-Recheck.file c.in-Recheck.log c.args.second.now
      (rw c.in-Recheck.is at c.requires).two;
}

pub returns-in-Recheck : goal.returns-in-Recheck
returns-in-Recheck c =
    IfOk-weaker c.recheck.result _ _
    (λ r k. rw c.in-Recheck.is
    (recheck_replies c.in-Recheck.file c.in-Recheck.log (program_of c.args.admitted.now) c.args.second.now
    r.status r.text k)) c.recheck.ensures

pub replay-requires : goal.replay-requires
replay-requires c = record {
  within = replay_within c.in-Replay.file c.in-Replay.drawing c.args.second.now
      (rw c.in-Replay.is at c.requires).two;
}

pub returns-in-Replay : goal.returns-in-Replay
returns-in-Replay c =
    IfOk-weaker c.replay.result _ _
    (λ r k. rw c.in-Replay.is
    (replay_replies c.in-Replay.file c.in-Replay.drawing (program_of c.args.admitted.now) c.args.second.now
    r.status r.text k)) c.replay.ensures

pub simulate-requires-clause-within : goal.simulate-requires-clause-within
simulate-requires-clause-within c =
    state_within c.in-Run.file c.in-Run.state c.in-Run.number c.args.second.now (rw c.in-Run.is at c.requires).two

pub simulate-requires-clause-limit : goal.simulate-requires-clause-limit
simulate-requires-clause-limit c = (rw c.in-Run.is at c.requires).limits.1

pub returns-in-Run : goal.returns-in-Run
returns-in-Run c =
    IfOk-weaker c.simulate.result _ _
    (λ r k. rw c.in-Run.is (run_replies c.in-Run.file c.in-Run.state c.in-Run.number
    (program_of c.args.admitted.now) c.args.second.now r.status r.text k)) c.simulate.ensures

use Rattle.std.proofs.Common.{refl}
use Rattle.gh_symb.proofs.FollowLemmas.{step_passed}
use Rattle.gh_symb.proofs.passed.PathSoFar.pass.Goals as goal

pub returns-clause-passed : goal.returns-clause-passed
returns-clause-passed c =
    step_passed c.args.context c.args.step.now c.args.walker.now c.use_step.new.walker c.encode_step.new.self
    c.args.self.now c.use_step.new.self _ c.in_ok-encoded.encoded
    c.in_ok-use_step.ensures.uses c.in_ok-use_step.ensures.version c.in_ok-use_step.ensures.met
    c.in_ok-encoded.ensures.done c.in_ok-encoded.ensures.read refl refl refl c.in_ok-push.ensures.items

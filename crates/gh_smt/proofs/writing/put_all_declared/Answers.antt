use Rattle.gh_smt.specs.Kinds.{declared_text}
use Rattle.gh_smt.proofs.Adding.{one_more}
use Rattle.gh_smt.proofs.writing.put_all_declared.Goals as goal

pub loop-number-preserved : goal.loop-number-preserved
loop-number-preserved c =
    one_more (declared_text c.args.kind) _ _ _ c.loop-number.number c.loop-number.invariant c.in_ok-put_declared.ensures

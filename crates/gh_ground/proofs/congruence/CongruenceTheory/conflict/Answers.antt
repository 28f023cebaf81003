use Rattle.std.proofs.lemmas.Result.{IfOk-weaker}
use Rattle.gh_ground.proofs.ConflictLemmas.{none_refuted}
use Rattle.gh_ground.proofs.congruence.CongruenceTheory.conflict.Goals as goal

pub returns-clause-none : goal.returns-clause-none
returns-clause-none c =
    IfOk-weaker c.conflict.result _ _ (none_refuted c.args.self.now.classes.sizes c.args.self.now.classes.lits)
    c.conflict.ensures.none

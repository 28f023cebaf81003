use Rattle.std.proofs.Common.{subst}
use Rattle.gh_check.specs.Kept.{clause_at}
use Rattle.gh_check.specs.Truths.{TruthSet, IsLook}
use Rattle.gh_check.proofs.hints.Truths.look_at.Goals as goal

pub returns : goal.returns
returns c =
    subst (λ (t : TruthSet). IsLook t.lits (clause_at c.args.kept.now c.args.position) c.look_at.result) c.only.ensures
    c.look_at.ensures

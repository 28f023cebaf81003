use Rattle.std.proofs.Common.{◌∙◌, sym, subst}
use Rattle.gh_base.specs.Atoms.{AreInRange}
use Rattle.gh_check.specs.Truths.{IsLook}
use Rattle.gh_check.proofs.TruthLemmas.{at_within}
use Rattle.gh_check.proofs.hints.Layers.look_at.Goals as goal

pub look-requires : goal.look-requires
look-requires c =
    subst (AreInRange c.args.self.now.sizes) (sym (c.lits.ensures ∙ c.clause-clause.ensures))
    (at_within c.args.self.now.sizes c.args.kept.now c.args.position c.requires)

pub returns : goal.returns
returns c =
    subst (λ cs. IsLook c.args.self.now.lits cs c.look.result) (c.lits.ensures ∙ c.clause-clause.ensures) c.look.ensures

use Rattle.std.proofs.Common.{◌≡◌, ◌∙◌, map, refl, ap, subst, arith, take_all}
use Rattle.gh_base.specs.Atoms.{opposite}
use Rattle.gh_sat.proofs.StatusLemmas.{nothing}
use Rattle.gh_check.specs.Truths.{IsConsistent}
use Rattle.gh_check.proofs.TruthLemmas.{falsified_clash}
use Rattle.gh_check.proofs.hints.Truths.falsify.Goals as goal

pub returns-then-is_false-clause-clash : goal.returns-then-is_false-clause-clash
returns-then-is_false-clause-clash c =
    λ t. falsified_clash c.args.lits.now c.loop-lit.lit-index nothing _ c.negated-negated.result c.loop-lit.self.lits
    c.loop-lit-test.true refl c.loop-lit.invariant.set c.negated-negated.ensures
    (c.if-is_false.ensures.0 refl)

pub returns-clause-set : goal.returns-clause-set
returns-clause-set c =
    let whole : c.loop-lit.self.lits ≡ map opposite c.args.lits.now =
    c.loop-lit.invariant.set ∙ ap (map opposite) (take_all c.loop-lit.lit-index c.args.lits.now (omega arith)) in
    λ fails. whole

pub returns-clause-consistent : goal.returns-clause-consistent
returns-clause-consistent c =
    let whole : c.loop-lit.self.lits ≡ map opposite c.args.lits.now =
    c.loop-lit.invariant.set ∙ ap (map opposite) (take_all c.loop-lit.lit-index c.args.lits.now (omega arith)) in
    λ fails. subst IsConsistent whole c.loop-lit.invariant.consistent

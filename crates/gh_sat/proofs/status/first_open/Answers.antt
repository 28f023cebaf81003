use Rattle.gh_base.specs.declared.atom.Lit.{Lit}
use Rattle.gh_base.specs.Atoms.{opposite}
use Rattle.std.proofs.lemmas.List.Elements.{All-more}
use Rattle.gh_sat.specs.Trail.{IsTrueIn}
use Rattle.gh_sat.proofs.StatusLemmas.{nothing}
use Rattle.gh_sat.proofs.NeededLemmas.{all_taken}
use Rattle.gh_sat.proofs.status.first_open.Goals as goal

pub loop-lit-preserved : goal.loop-lit-preserved
loop-lit-preserved c =
    All-more (λ (m : Lit). IsTrueIn c.args.trail.now.steps (opposite m)) c.args.clause.now c.loop-lit.lit-index nothing
    c.loop-lit-test.true c.loop-lit.invariant (c.is_false.ensures.yes c.if-not-is_false.false)

pub returns-clause-none : goal.returns-clause-none
returns-clause-none c =
    all_taken (λ (m : Lit). IsTrueIn c.args.trail.now.steps (opposite m)) c.args.clause.now c.loop-lit.lit-index
    c.loop-lit-test.false c.loop-lit.invariant

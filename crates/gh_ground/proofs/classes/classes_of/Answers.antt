use Rattle.std.proofs.Common.{List, take, sym, subst, take_all}
use Rattle.std.proofs.lemmas.List.{take_more}
use Rattle.gh_base.specs.declared.atom.Lit.{Lit}
use Rattle.gh_sat.proofs.StatusLemmas.{nothing}
use Rattle.gh_ground.specs.Making.{AreClassesOf}
use Rattle.gh_ground.proofs.classes.classes_of.Goals as goal

pub loop-lit-init : goal.loop-lit-init
loop-lit-init c = c.in_ok-classes.ensures

pub take_in-requires : goal.take_in-requires
take_in-requires c =
    (c.args.sizes, sym c.loop-lit.invariant.long, c.requires c.loop-lit.lit-index nothing c.loop-lit-test.true)

pub loop-lit-preserved : goal.loop-lit-preserved
loop-lit-preserved c =
    subst (λ (ls : List Lit). AreClassesOf c.args.sizes.terms ls c.take_in.new.classes.items)
    (sym (take_more c.args.lits.now c.loop-lit.lit-index nothing c.loop-lit-test.true))
    (c.take_in.ensures c.args.sizes.terms (take c.loop-lit.lit-index c.args.lits.now) c.loop-lit.invariant)

pub returns : goal.returns
returns c =
    subst (λ (ls : List Lit). AreClassesOf c.args.sizes.terms ls c.loop-lit.classes.items)
    (take_all c.loop-lit.lit-index c.args.lits.now c.loop-lit-test.false) c.loop-lit.invariant

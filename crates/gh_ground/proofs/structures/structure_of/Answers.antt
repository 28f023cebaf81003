use Rattle.std.proofs.Common.{List, length, take, get_or, refl, ap, sym, subst, ◌∙◌, take_all}
use Rattle.std.proofs.lemmas.List.{take_more}
use Rattle.gh_base.specs.declared.atom.Lit.{Lit}
use Rattle.gh_base.specs.declared.sizes.Sizes.{Sizes}
use Rattle.gh_base.specs.Atoms.{IsInRange}
use Rattle.gh_sat.proofs.StatusLemmas.{nothing}
use Rattle.gh_ground.specs.Making.{AreClassesOf, AreGiven}
use Rattle.gh_ground.proofs.GivenLemmas.{given_first, sizes_are, structure_is}
use Rattle.gh_ground.proofs.structures.structure_of.Goals as goal

pub loop-lit-init : goal.loop-lit-init
loop-lit-init c = record {
  keeps = record { sizes = refl; classes = refl };
  given = given_first c.in_ok-structure.structure c.in_ok-structure.ensures.none;
}

pub take_in-requires : goal.take_in-requires
take_in-requires c =
    let long = ap length c.as_slice.ensures.value ∙ c.in_ok-classes.ensures.long in
    let made = c.loop-lit.invariant.keeps.sizes
    ∙ sizes_are c.args.sizes c.in_ok-structure.structure.sizes (length c.as_slice.result.now)
    c.in_ok-structure.ensures.sizes long in
    subst (λ (z : Sizes). IsInRange z (get_or c.args.lits.now c.loop-lit.lit-index nothing).atom) (sym made)
    (c.requires.range c.loop-lit.lit-index nothing c.loop-lit-test.true)

pub loop-lit-preserved : goal.loop-lit-preserved
loop-lit-preserved c =
    let k = c.take_in.ensures.keeps in
    let h = c.loop-lit.invariant in
    record {
      keeps = record { sizes = k.sizes ∙ h.keeps.sizes; classes = k.classes ∙ h.keeps.classes };
      given = subst (λ (ls : List Lit). AreGiven ls c.take_in.new.structure)
          (sym (take_more c.args.lits.now c.loop-lit.lit-index nothing c.loop-lit-test.true))
          (c.take_in.ensures.given (take c.loop-lit.lit-index c.args.lits.now) h.given);
    }

pub returns-clause-sizes : goal.returns-clause-sizes
returns-clause-sizes c =
    let long = ap length c.as_slice.ensures.value ∙ c.in_ok-classes.ensures.long in
    c.loop-lit.invariant.keeps.sizes
    ∙ sizes_are c.args.sizes c.in_ok-structure.structure.sizes (length c.as_slice.result.now)
    c.in_ok-structure.ensures.sizes long

pub returns-clause-structure : goal.returns-clause-structure
returns-clause-structure c =
    let long = ap length c.as_slice.ensures.value ∙ c.in_ok-classes.ensures.long in
    let made = c.loop-lit.invariant.keeps.sizes
    ∙ sizes_are c.args.sizes c.in_ok-structure.structure.sizes (length c.as_slice.result.now)
    c.in_ok-structure.ensures.sizes long in
    let classes = c.loop-lit.invariant.keeps.classes ∙ c.in_ok-structure.ensures.classes ∙ c.as_slice.ensures.value in
    structure_is c.args.sizes c.args.lits.now c.loop-lit.structure made
    (subst (AreClassesOf c.args.sizes.terms c.args.lits.now) (sym classes) c.in_ok-classes.ensures)
    (subst (λ (ls : List Lit). AreGiven ls c.loop-lit.structure)
    (take_all c.loop-lit.lit-index c.args.lits.now c.loop-lit-test.false) c.loop-lit.invariant.given)

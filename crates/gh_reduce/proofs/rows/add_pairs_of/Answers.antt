use Rattle.std.proofs.Common.{◌<◌, sym, subst, arith}
use Rattle.gh_base.specs.Atoms.{term}
use Rattle.gh_grass.specs.Claims.{GroundFormula, ground_formula_of}
use Rattle.gh_symb.specs.Formulas.{each}
use Rattle.gh_reduce.specs.Growth.{IsWithin}
use Rattle.gh_reduce.specs.Rows.{of_pair}
use Rattle.gh_reduce.proofs.GrowthLemmas.{each_more, same_terms}
use Rattle.gh_reduce.proofs.RowLemmas.{pair_within, pair_stays}
use Rattle.gh_reduce.proofs.rows.add_pairs_of.Goals as goal

pub add_formula-requires : goal.add_formula-requires
add_formula-requires c =
    let s = c.loop-v.ground.sizes in
    let e = c.args.each.now in
    let inside =
    pair_stays c.args.ground.now c.loop-v.ground (each c.loop-v.v (of_pair e c.args.z)) e c.loop-v.invariant
    c.requires.inside in
    let same = same_terms c.args.ground.now c.loop-v.ground (each c.loop-v.v (of_pair e c.args.z)) c.loop-v.invariant in
    let first : c.args.z.0 < s.terms = omega (arith, same, c.requires.term) in
    let second : c.loop-v.v < s.terms = omega (arith, same, c.terms-v-end.ensures) in
    subst (λ (f : GroundFormula). IsWithin s f) (sym c.in_ok-formula.ensures)
    (pair_within s e inside c.args.z (term c.loop-v.v) first second)

pub loop-v-preserved : goal.loop-v-preserved
loop-v-preserved c =
    each_more (of_pair c.args.each.now c.args.z) c.loop-v.v c.args.ground.now c.loop-v.ground c.add_formula.new.ground
    (ground_formula_of c.in_ok-formula.formula) c.loop-v.invariant c.in_ok-formula.ensures
    c.in_ok-add_formula.ensures.stated

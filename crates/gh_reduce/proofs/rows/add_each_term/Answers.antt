use Rattle.std.proofs.Common.{◌<◌, sym, subst, arith}
use Rattle.gh_base.specs.Atoms.{term}
use Rattle.gh_grass.specs.Claims.{GroundFormula, ground_formula_of}
use Rattle.gh_symb.specs.Formulas.{each}
use Rattle.gh_reduce.specs.Growth.{IsWithin}
use Rattle.gh_reduce.specs.Rows.{of_term}
use Rattle.gh_reduce.proofs.GrowthLemmas.{each_more, same_terms}
use Rattle.gh_reduce.proofs.RowLemmas.{term_within, term_stays}
use Rattle.gh_reduce.proofs.rows.add_each_term.Goals as goal

pub add_formula-requires : goal.add_formula-requires
add_formula-requires c =
    let s = c.loop-z.ground.sizes in
    let e = c.args.each.now in
    let inside =
    term_stays c.args.ground.now c.loop-z.ground (each c.loop-z.z (of_term e)) e c.loop-z.invariant c.requires in
    let same = same_terms c.args.ground.now c.loop-z.ground (each c.loop-z.z (of_term e)) c.loop-z.invariant in
    let below : c.loop-z.z < s.terms = omega (arith, same, c.terms-z-end.ensures) in
    subst (λ (f : GroundFormula). IsWithin s f) (sym c.in_ok-formula.ensures)
    (term_within s e inside (term c.loop-z.z) below)

pub loop-z-preserved : goal.loop-z-preserved
loop-z-preserved c =
    each_more (of_term c.args.each.now) c.loop-z.z c.args.ground.now c.loop-z.ground c.add_formula.new.ground
    (ground_formula_of c.in_ok-formula.formula) c.loop-z.invariant c.in_ok-formula.ensures
    c.in_ok-add_formula.ensures.stated

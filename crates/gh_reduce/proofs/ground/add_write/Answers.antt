use Rattle.std.proofs.Common.{[], ◌∷◌, ◌++◌, ◌+◌, arith}
use Rattle.gh_grass.specs.Claims.{ground_formula_of}
use Rattle.gh_symb.specs.Formulas.{hops, each}
use Rattle.gh_reduce.specs.declared.rows.EachTerm.TheVariants.{Same}
use Rattle.gh_reduce.specs.declared.rows.EachPair.TheVariants.{Others}
use Rattle.gh_reduce.specs.Rows.{of_term, of_pair}
use Rattle.gh_reduce.proofs.RowLemmas.{pair_stays, claim_stays, one_more, pairs_more}
use Rattle.gh_reduce.proofs.ground.add_write.Goals as goal

pub add_each_term-requires : goal.add_each_term-requires
add_each_term-requires c = let v = c.requires.version in (omega (arith, v), v)

pub add_formula-requires : goal.add_formula-requires
add_formula-requires c =
    let p = c.args.ground.now in
    claim_stays p c.add_each_term.new.ground (each p.sizes.terms (of_term (Same c.args.old (c.args.old + 1)))) _
    (ground_formula_of c.hops-leads.result) c.in_ok-add_each_term.ensures.stated c.hops-leads.ensures
    (c.requires.version, c.requires.x, c.requires.value)

pub add_each_pair-requires : goal.add_each_pair-requires
add_each_pair-requires c =
    let p = c.args.ground.now in
    let q = c.add_each_term.new.ground in
    let r = c.add_formula.new.ground in
    let i = c.args.old in
    let v = c.requires.version in
    let fs = each p.sizes.terms (of_term (Same i (i + 1))) in
    let h = hops (i + 1) c.args.x c.args.value in
    let e =
    one_more p q r fs h (ground_formula_of c.hops-leads.result) c.in_ok-add_each_term.ensures.stated
    c.in_ok-add_formula.ensures.stated c.hops-leads.ensures in
    pair_stays p r (fs ++ h ∷ []) (Others i (i + 1) c.args.x) e (omega (arith, v), v, c.requires.x)

pub returns : goal.returns
returns c =
    let p = c.args.ground.now in
    let q = c.add_each_term.new.ground in
    let r = c.add_formula.new.ground in
    let i = c.args.old in
    let fs = each p.sizes.terms (of_term (Same i (i + 1))) in
    let h = hops (i + 1) c.args.x c.args.value in
    let e =
    one_more p q r fs h (ground_formula_of c.hops-leads.result) c.in_ok-add_each_term.ensures.stated
    c.in_ok-add_formula.ensures.stated c.hops-leads.ensures in
    pairs_more p r c.add_each_pair.new.ground (fs ++ h ∷ []) (of_pair (Others i (i + 1) c.args.x)) e
    c.in_ok-add_each_pair.ensures.stated

use Rattle.std.proofs.Common.{[], ◌∷◌, ◌++◌, ◌+◌, arith}
use Rattle.gh_grass.specs.Claims.{ground_formula_of, negation_of}
use Rattle.gh_symb.specs.Formulas.{allocated, hops, each}
use Rattle.gh_reduce.specs.declared.rows.EachTerm.TheVariants.{Made}
use Rattle.gh_reduce.specs.declared.rows.EachPair.TheVariants.{Others}
use Rattle.gh_reduce.specs.Rows.{of_term, of_pair}
use Rattle.gh_reduce.proofs.RowLemmas.{term_stays, pair_stays, claim_stays, claim_within, one_more, terms_more}
use Rattle.gh_reduce.proofs.RowLemmas.{pairs_more, first_one, some_more}
use Rattle.gh_reduce.proofs.ground.add_new.Goals as goal

pub add_formula-requires : goal.add_formula-requires
add_formula-requires c =
    let v = c.requires.version in
    claim_within c.args.ground.now.sizes _ (ground_formula_of c.in_ok-unused.unused) c.in_ok-unused.ensures
    (omega (arith, v), c.requires.location)

pub add_each_term-requires : goal.add_each_term-requires
add_each_term-requires c =
    let v = c.requires.version in
    term_stays c.args.ground.now c.add_formula.new.ground (ground_formula_of c.in_ok-unused.unused ∷ [])
    (Made c.args.old (c.args.old + 1) c.args.location) c.in_ok-add_formula.ensures.stated
    (omega (arith, v), v, c.requires.location)

pub add_formula-requires-2 : goal.add_formula-requires-2
add_formula-requires-2 c =
    let p = c.args.ground.now in
    let q = c.add_formula.new.ground in
    let r = c.add_each_term.new.ground in
    let f = of_term (Made c.args.old (c.args.old + 1) c.args.location) in
    let fs = ground_formula_of c.in_ok-unused.unused ∷ [] in
    let e = terms_more p q r fs f c.in_ok-add_formula.ensures.stated c.in_ok-add_each_term.ensures.stated in
    claim_stays p r (fs ++ each p.sizes.terms f) _ (ground_formula_of c.hops-leads.result) e c.hops-leads.ensures
    (c.requires.version, c.requires.location, c.requires.content)

pub add_each_pair-requires : goal.add_each_pair-requires
add_each_pair-requires c =
    let p = c.args.ground.now in
    let q = c.add_formula.new.ground in
    let r = c.add_each_term.new.ground in
    let s = c.add_formula-2.new.ground in
    let v = c.requires.version in
    let f = of_term (Made c.args.old (c.args.old + 1) c.args.location) in
    let fs = ground_formula_of c.in_ok-unused.unused ∷ [] in
    let h = ground_formula_of c.hops-leads.result in
    let e = terms_more p q r fs f c.in_ok-add_formula.ensures.stated c.in_ok-add_each_term.ensures.stated in
    let g = some_more p r s (fs ++ each p.sizes.terms f) (h ∷ []) e c.in_ok-add_formula-2.ensures.stated in
    pair_stays p s ((fs ++ each p.sizes.terms f) ++ h ∷ []) (Others c.args.old (c.args.old + 1) c.args.location) g
    (omega (arith, v), v, c.requires.location)

pub returns : goal.returns
returns c =
    let p = c.args.ground.now in
    let q = c.add_formula.new.ground in
    let r = c.add_each_term.new.ground in
    let s = c.add_formula-2.new.ground in
    let i = c.args.old in
    let l = c.args.location in
    let f = of_term (Made i (i + 1) l) in
    let free = negation_of (allocated i l) in
    let h = hops (i + 1) l c.args.content in
    let start =
    first_one p q free (ground_formula_of c.in_ok-unused.unused) c.in_ok-add_formula.ensures.stated
    c.in_ok-unused.ensures in
    let e = terms_more p q r (free ∷ []) f start c.in_ok-add_each_term.ensures.stated in
    let g =
    one_more p r s ((free ∷ []) ++ each p.sizes.terms f) h (ground_formula_of c.hops-leads.result) e
    c.in_ok-add_formula-2.ensures.stated c.hops-leads.ensures in
    pairs_more p s c.add_each_pair.new.ground (((free ∷ []) ++ each p.sizes.terms f) ++ h ∷ [])
    (of_pair (Others i (i + 1) l)) g c.in_ok-add_each_pair.ensures.stated

use Rattle.std.proofs.Common.{[], ◌∷◌}
use Rattle.gh_grass.specs.Claims.{ground_formula_of, negation_of, one_of, equality}
use Rattle.gh_symb.specs.Formulas.{allocated, hops}
use Rattle.gh_reduce.proofs.WithinLemmas.{equality_within}
use Rattle.gh_reduce.proofs.RowLemmas.{claim_stays, claim_within, one_more, first_one}
use Rattle.gh_reduce.proofs.ground.add_successor.Goals as goal

pub add_formula-requires : goal.add_formula-requires
add_formula-requires c =
    let v = c.requires.version in
    let of = c.requires.of in
    let t = c.requires.term in
    claim_within c.args.ground.now.sizes _ (ground_formula_of c.in_ok-next.next) c.in_ok-next.ensures
    ((v, of), ((v, of, t), tt))

pub add_formula-requires-2 : goal.add_formula-requires-2
add_formula-requires-2 c =
    let p = c.args.ground.now in
    let v = c.requires.version in
    let of = c.requires.of in
    let t = c.requires.term in
    claim_stays p c.add_formula.new.ground (ground_formula_of c.in_ok-next.next ∷ []) _
    (ground_formula_of c.in_ok-stays.stays) c.in_ok-add_formula.ensures.stated c.in_ok-stays.ensures
    ((v, of), (equality_within p.sizes c.args.x c.args.t of t, tt))

pub returns : goal.returns
returns c =
    let p = c.args.ground.now in
    let q = c.add_formula.new.ground in
    let f = one_of (negation_of (allocated c.args.version c.args.x) ∷ hops c.args.version c.args.x c.args.t ∷ []) in
    let g = one_of (allocated c.args.version c.args.x ∷ equality c.args.x c.args.t ∷ []) in
    one_more p q c.add_formula-2.new.ground (f ∷ []) g (ground_formula_of c.in_ok-stays.stays)
    (first_one p q f (ground_formula_of c.in_ok-next.next) c.in_ok-add_formula.ensures.stated c.in_ok-next.ensures)
    c.in_ok-add_formula-2.ensures.stated c.in_ok-stays.ensures

use Rattle.std.proofs.Common.{◌+◌, arith}
use Rattle.gh_symb.specs.Formulas.{each}
use Rattle.gh_reduce.specs.declared.rows.EachTerm.TheVariants.{Freed}
use Rattle.gh_reduce.specs.declared.rows.EachPair.TheVariants.{Others}
use Rattle.gh_reduce.specs.Rows.{of_term, of_pair}
use Rattle.gh_reduce.proofs.RowLemmas.{pair_stays, pairs_more}
use Rattle.gh_reduce.proofs.ground.add_free.Goals as goal

pub add_each_term-requires : goal.add_each_term-requires
add_each_term-requires c = let v = c.requires.version in (omega (arith, v), v, c.requires.x)

pub add_each_pair-requires : goal.add_each_pair-requires
add_each_pair-requires c =
    let p = c.args.ground.now in
    let i = c.args.old in
    let v = c.requires.version in
    pair_stays p c.add_each_term.new.ground (each p.sizes.terms (of_term (Freed i (i + 1) c.args.x)))
    (Others i (i + 1) c.args.x) c.in_ok-add_each_term.ensures.stated (omega (arith, v), v, c.requires.x)

pub returns : goal.returns
returns c =
    let p = c.args.ground.now in
    let i = c.args.old in
    pairs_more p c.add_each_term.new.ground c.add_each_pair.new.ground
    (each p.sizes.terms (of_term (Freed i (i + 1) c.args.x))) (of_pair (Others i (i + 1) c.args.x))
    c.in_ok-add_each_term.ensures.stated c.in_ok-add_each_pair.ensures.stated

use Rattle.std.proofs.Common.{◌+◌, [], ◌∷◌, drop}
use Rattle.gh_grass.specs.Claims.{ground_formula_of, ground_formula_list}
use Rattle.gh_grass.specs.Clauses.{next_after, clauses_from}
use Rattle.gh_reduce.specs.Growth.{stated_in}
use Rattle.gh_reduce.proofs.GrownLemmas.{grown_then, grown_is}
use Rattle.gh_reduce.proofs.PartLemmas.{claim_list_from, left_at, left_more}
use Rattle.gh_reduce.proofs.clauses.add_formulas.Goals as goal

pub add_formula-requires : goal.add_formula-requires
add_formula-requires c =
    let fs = c.args.formulas.now in
    let i = c.loop-formula.formula-index in
    left_at c.loop-formula.ground (stated_in c.args.ground.now (ground_formula_list fs))
    (ground_formula_list (drop i fs)) (ground_formula_list (drop (i + 1) fs))
    (ground_formula_of c.formula-item.result) c.loop-formula.invariant.0
    (claim_list_from fs i c.formula-item.result c.loop-formula-test.true c.formula-item.is)

pub loop-formula-preserved : goal.loop-formula-preserved
loop-formula-preserved c =
    let fs = c.args.formulas.now in
    let i = c.loop-formula.formula-index in
    let p = c.loop-formula.ground in
    let f = ground_formula_of c.formula-item.result in (
      left_more c.loop-formula.ground c.add_formula.new.ground (stated_in c.args.ground.now (ground_formula_list fs))
          (ground_formula_list (drop i fs)) (ground_formula_list (drop (i + 1) fs))
          (ground_formula_of c.formula-item.result) c.loop-formula.invariant.0
          (claim_list_from fs i c.formula-item.result c.loop-formula-test.true c.formula-item.is)
          c.in_ok-add_formula.ensures.stated,
      grown_then c.args.ground.now p c.add_formula.new.ground c.loop-formula.invariant.1
          (grown_is p c.add_formula.new.ground (next_after (f ∷ []) p.sizes.defs) (clauses_from (f ∷ []) p.sizes.defs)
          c.in_ok-add_formula.ensures.stated),
    )

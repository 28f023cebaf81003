use Rattle.std.proofs.Common.{drop}
use Rattle.gh_grass.specs.Claims.{ground_formula_of, ground_formulas_view}
use Rattle.gh_grass.specs.Clauses.{all_made}
use Rattle.gh_reduce.specs.Growth.{all_defined_in, IsGrown}
use Rattle.gh_reduce.proofs.GrowthLemmas.{Going}
use Rattle.gh_reduce.proofs.LiteralLemmas.{size, sizes}
use Rattle.gh_reduce.proofs.clauses.+literal.Given as goal

abbrev pub invariant-literals-loop-formula : goal.invariant-literals-loop-formula
invariant-literals-loop-formula l =
    Going l.ground l.lits.items (ground_formulas_view (drop l.formula-index l.formulas))
    (all_defined_in l.initial.ground (ground_formulas_view l.formulas))
    (all_made (ground_formulas_view l.formulas) l.initial.ground.sizes.defs).lits
    × IsGrown l.initial.ground l.ground

abbrev pub decreases-literal : goal.decreases-literal
decreases-literal l = size (ground_formula_of l.formula.now)

abbrev pub decreases-literals : goal.decreases-literals
decreases-literals l = sizes (ground_formulas_view l.formulas.now)

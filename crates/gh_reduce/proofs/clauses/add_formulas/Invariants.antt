use Rattle.std.proofs.Common.{drop}
use Rattle.gh_grass.specs.Claims.{ground_formula_list}
use Rattle.gh_reduce.specs.Growth.{stated_in, IsGrown}
use Rattle.gh_reduce.proofs.PartLemmas.{Left}
use Rattle.gh_reduce.proofs.clauses.add_formulas.Given as goal

abbrev pub invariant-loop-formula : goal.invariant-loop-formula
invariant-loop-formula l =
    Left l.ground (ground_formula_list (drop l.formula-index l.formulas))
    (stated_in l.initial.ground (ground_formula_list l.formulas))
    × IsGrown l.initial.ground l.ground

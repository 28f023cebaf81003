use Rattle.std.proofs.Common.{◌≡◌, ◌++◌, drop}
use Rattle.gh_ast.specs.Plain.{assertions_view}
use Rattle.gh_grass.specs.Bindings.{bound_term}
use Rattle.gh_grass.specs.Claims.{ground_formula_list}
use Rattle.gh_grass.specs.Footprints.{footprints}
use Rattle.gh_grass.proofs.footprint.+footprint.Given as goal

abbrev pub invariant-footprints_at-loop-assertion : goal.invariant-footprints_at-loop-assertion
invariant-footprints_at-loop-assertion l =
    ground_formula_list l.formulas.items
    ++ footprints (bound_term l.binding) l.version l.z (assertions_view (drop l.assertion-index l.assertions))
    ≡ footprints (bound_term l.binding) l.version l.z (assertions_view l.assertions)

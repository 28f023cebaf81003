use Rattle.std.proofs.Common.{◌≡◌, ◌++◌, drop, length}
use Rattle.gh_ast.specs.Plain.{assertions_view}
use Rattle.gh_grass.specs.Bindings.{bound_term, next_term}
use Rattle.gh_grass.specs.Claims.{ground_formula_list}
use Rattle.gh_grass.specs.Footprints.{structures}
use Rattle.gh_grass.proofs.footprint.+structure.Given as goal

abbrev pub invariant-structures_of-loop-assertion : goal.invariant-structures_of-loop-assertion
invariant-structures_of-loop-assertion l =
    ground_formula_list l.formulas.items
    ++ structures (bound_term l.binding) (next_term l.terms l.version) l.version (length l.terms)
    (assertions_view (drop l.assertion-index l.assertions))
    ≡ structures (bound_term l.binding) (next_term l.terms l.version) l.version (length l.terms)
    (assertions_view l.assertions)

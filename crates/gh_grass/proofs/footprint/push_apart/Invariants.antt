use Rattle.std.proofs.Common.{◌≡◌, ◌++◌, map}
use Rattle.gh_base.specs.Atoms.{terms_below}
use Rattle.gh_ast.specs.Plain.{assertion_of}
use Rattle.gh_grass.specs.Bindings.{bound_term}
use Rattle.gh_grass.specs.Claims.{ground_formula_list}
use Rattle.gh_grass.specs.Footprints.{apart_here}
use Rattle.gh_grass.proofs.footprint.push_apart.Given as goal

abbrev pub invariant-loop-z : goal.invariant-loop-z
invariant-loop-z l =
    ground_formula_list l.formulas.items
    ≡ ground_formula_list l.initial.formulas.items
    ++ map (apart_here (bound_term l.under.binding.now) l.under.version (assertion_of l.first)
    (assertion_of l.second)) (terms_below l.z)

use Rattle.std.proofs.Common.{◌≡◌, ◌++◌, map, drop}
use Rattle.std.specs.List.{flat_map}
use Rattle.gh_ast.specs.Plain.{assertion_of}
use Rattle.gh_grass.specs.Bindings.{bound_term}
use Rattle.gh_grass.specs.Claims.{ground_formula_list}
use Rattle.gh_grass.specs.Footprints.{apart}
use Rattle.gh_grass.proofs.footprint.push_apart_from.Given as goal

abbrev pub invariant-loop-second : goal.invariant-loop-second
invariant-loop-second l =
    ground_formula_list l.formulas.items
    ++ flat_map (apart (bound_term l.under.binding.now) l.under.version l.under.terms (assertion_of l.first))
    (map assertion_of (drop l.second-index l.others))
    ≡ ground_formula_list l.initial.formulas.items
    ++ flat_map (apart (bound_term l.under.binding.now) l.under.version l.under.terms (assertion_of l.first))
    (map assertion_of l.others)

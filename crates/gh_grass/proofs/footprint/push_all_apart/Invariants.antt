use Rattle.std.proofs.Common.{◌≡◌, ◌++◌, map, drop}
use Rattle.gh_ast.specs.Plain.{assertion_of}
use Rattle.gh_grass.specs.Bindings.{bound_term}
use Rattle.gh_grass.specs.Claims.{ground_formula_list}
use Rattle.gh_grass.specs.Footprints.{all_apart}
use Rattle.gh_grass.proofs.footprint.push_all_apart.Given as goal

abbrev pub invariant-loop-i : goal.invariant-loop-i
invariant-loop-i l =
    ground_formula_list l.formulas.items
    ++ all_apart (bound_term l.under.binding.now) l.under.version l.under.terms
    (map assertion_of (drop l.i l.members))
    ≡ ground_formula_list l.initial.formulas.items
    ++ all_apart (bound_term l.under.binding.now) l.under.version l.under.terms (map assertion_of l.members)

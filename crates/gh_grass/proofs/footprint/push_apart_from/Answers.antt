use Rattle.std.specs.List.{flat_map}
use Rattle.std.proofs.Common.{ap}
use Rattle.gh_ast.specs.Plain.{assertion_of}
use Rattle.gh_grass.specs.Bindings.{bound_term}
use Rattle.gh_grass.specs.Claims.{ground_formula_list}
use Rattle.gh_grass.specs.Footprints.{apart}
use Rattle.gh_grass.proofs.ClaimLemmas.{put_some, formula_list_from}
use Rattle.gh_grass.proofs.footprint.push_apart_from.Goals as goal

pub loop-second-preserved : goal.loop-second-preserved
loop-second-preserved c =
    let f =
    apart (bound_term c.args.under.binding.now) c.args.under.version c.args.under.terms
    (assertion_of c.args.first.now) in
    put_some (ground_formula_list c.push_apart.new.formulas.items) (ground_formula_list c.loop-second.formulas.items)
    (f (assertion_of c.second-item.result)) _ _ _
    c.in_ok-push_apart.ensures c.loop-second.invariant
    (ap (flat_map f) (formula_list_from c.args.others.now c.loop-second.second-index c.second-item.result
    c.loop-second-test.true c.second-item.is))

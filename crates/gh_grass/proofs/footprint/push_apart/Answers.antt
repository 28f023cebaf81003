use Rattle.gh_ast.specs.Plain.{assertion_of}
use Rattle.gh_grass.specs.Bindings.{bound_term}
use Rattle.gh_grass.specs.Claims.{ground_formula_list}
use Rattle.gh_grass.specs.Footprints.{apart_here}
use Rattle.gh_grass.proofs.ClaimLemmas.{put_term}
use Rattle.std.proofs.Common.{ap, ◌∙◌}
use Rattle.gh_grass.proofs.footprint.push_apart.Goals as goal

pub loop-z-preserved : goal.loop-z-preserved
loop-z-preserved c =
    let f =
    apart_here (bound_term c.args.under.binding.now) c.args.under.version (assertion_of c.args.first.now)
    (assertion_of c.args.second.now) in
    ap ground_formula_list c.in_ok-push.ensures.items
    ∙ put_term f c.loop-z.formulas.items c.in_ok-apart_at.field-0 (ground_formula_list c.args.formulas.now.items)
    c.loop-z.z c.loop-z.invariant c.in_ok-apart_at.ensures

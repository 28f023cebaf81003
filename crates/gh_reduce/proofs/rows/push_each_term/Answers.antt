use Rattle.std.proofs.Common.{ap, ◌∙◌}
use Rattle.gh_grass.specs.Claims.{ground_formula_list}
use Rattle.gh_grass.proofs.ClaimLemmas.{put_term}
use Rattle.gh_reduce.specs.Rows.{of_term}
use Rattle.gh_reduce.proofs.rows.push_each_term.Goals as goal

pub loop-z-preserved : goal.loop-z-preserved
loop-z-preserved c =
    ap ground_formula_list c.in_ok-push.ensures.items
    ∙ put_term (of_term c.args.each.now) c.loop-z.members.items c.in_ok-formula.field-0
    (ground_formula_list c.args.members.now.items) c.loop-z.z c.loop-z.invariant c.in_ok-formula.ensures

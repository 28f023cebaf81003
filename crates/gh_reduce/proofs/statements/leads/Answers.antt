use Rattle.std.proofs.Common.{[], ◌∷◌, ap, ◌∙◌}
use Rattle.gh_grass.specs.Claims.{ground_formula_list, negation_of}
use Rattle.gh_grass.proofs.ClaimLemmas.{put_term}
use Rattle.gh_symb.specs.Formulas.{allocated, hops}
use Rattle.gh_reduce.proofs.statements.leads.Goals as goal

pub loop-v-preserved : goal.loop-v-preserved
loop-v-preserved c =
    ap ground_formula_list c.in_ok-push-2.ensures.items
    ∙ put_term (hops c.args.version c.args.x) c.loop-v.members.items c.hops.result
    (negation_of (allocated c.args.version c.args.x) ∷ []) c.loop-v.v c.loop-v.invariant c.hops.ensures

use Rattle.std.proofs.Common.{[], ◌∷◌, map, ap, ◌∙◌}
use Rattle.gh_grass.specs.Claims.{ground_formula_list}
use Rattle.gh_grass.proofs.ClaimLemmas.{put_term}
use Rattle.gh_symb.specs.Formulas.{meets, covers}
use Rattle.gh_symb.specs.Encodings.{plain_kind}
use Rattle.gh_symb.specs.Inside.{under_of}
use Rattle.gh_reduce.proofs.statements.meets_whole.Goals as goal

pub loop-z-preserved : goal.loop-z-preserved
loop-z-preserved c =
    let u = under_of c.args.bound.now in
    ap ground_formula_list c.in_ok-push-2.ensures.items
    ∙ put_term (covers u) c.loop-z.members.items c.in_ok-covers.field-0 (meets (map plain_kind c.args.terms.now) u ∷ [])
    c.loop-z.z c.loop-z.invariant c.in_ok-covers.ensures

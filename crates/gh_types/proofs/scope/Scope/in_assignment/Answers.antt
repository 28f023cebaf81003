use Rattle.std.proofs.Common.{[], ◌∷◌, map}
use Rattle.gh_ast.specs.Occurrences.{assigned, mentioned, in_expr}
use Rattle.gh_types.proofs.FirstLemmas.{first_append, first_map}
use Rattle.gh_types.proofs.scope.Scope.in_assignment.Goals as goal

pub returns : goal.returns
returns c =
    let t = c.args.target.now in
    let names = in_expr c.args.value.now in
    first_append _ (assigned (t ∷ []) ∷ mentioned t ∷ []) (map mentioned names) _ _ _ c.earlier.ensures
    c.in_assigned.ensures (first_map _ mentioned names _ c.in_expr.ensures)

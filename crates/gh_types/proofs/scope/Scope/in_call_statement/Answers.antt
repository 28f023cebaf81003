use Rattle.std.proofs.Common.{◌++◌, map}
use Rattle.gh_ast.specs.Occurrences.{assigned, called, mentioned, in_exprs}
use Rattle.gh_types.proofs.FirstLemmas.{first_append, first_cons, first_map}
use Rattle.gh_types.proofs.scope.Scope.in_call_statement.Goals as goal

pub returns : goal.returns
returns c =
    let ts = c.args.targets.now in
    let es = c.args.arguments.now in
    let names = ts ++ in_exprs es in
    first_cons _ (assigned ts) _ _ _ _ c.earlier-2.ensures c.in_ok-of_targets.ensures (
    first_cons _ (called ts c.args.callee.now es) (map mentioned names) _ _ _ c.earlier.ensures
    c.in_call-of_call.ensures (
    first_map _ mentioned names _
    (first_append _ ts (in_exprs es) _ _ _ c.earlier-inside.ensures c.in_occurrences.ensures c.in_exprs.ensures)
    )
    )

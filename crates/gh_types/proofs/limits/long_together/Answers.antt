use Rattle.std.proofs.Common.{◌∙◌, ap}
use Rattle.gh_ast.specs.Limits.{reported}
use Rattle.gh_types.proofs.LimitLemmas.{one_found, atoms_together}
use Rattle.gh_types.proofs.limits.long_together.Goals as goal

pub returns : goal.returns
returns c =
    one_found _ _ _ (c.count_all_atoms.ensures ∙ ap reported (atoms_together c.args.alternatives.now))
    c.over_limit.ensures

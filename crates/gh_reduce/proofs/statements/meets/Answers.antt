use Rattle.std.proofs.Common.{◌∙◌}
use Rattle.gh_reduce.proofs.InsideLemmas.{meets_is}
use Rattle.gh_reduce.proofs.statements.meets.Goals as goal

pub returns : goal.returns
returns c = c.in_ok-structure_of.ensures ∙ meets_is c.args.terms.now c.args.bound.now

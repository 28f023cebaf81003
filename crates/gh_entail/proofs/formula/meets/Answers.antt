use Rattle.std.proofs.Common.{◌∙◌}
use Rattle.gh_ast.specs.Plain.{assertion_of}
use Rattle.gh_entail.proofs.Leaves.{meets_at}
use Rattle.gh_entail.proofs.formula.meets.Goals as goal

pub returns : goal.returns
returns c =
    c.in_ok-structure_of.ensures ∙ meets_at c.args.terms.now c.args.binding.now (assertion_of c.args.assertion.now)

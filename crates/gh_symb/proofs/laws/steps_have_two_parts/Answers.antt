use Rattle.gh_symb.proofs.StepParts.{two_parts}
use Rattle.gh_symb.proofs.laws.steps_have_two_parts.Goals as goal

pub returns : goal.returns
returns c = two_parts

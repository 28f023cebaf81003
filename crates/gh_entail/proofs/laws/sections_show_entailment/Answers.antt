use Rattle.gh_entail.proofs.Sections.{sections_show_entailment}
use Rattle.gh_entail.proofs.laws.sections_show_entailment.Goals as goal

pub returns : goal.returns
returns c = sections_show_entailment

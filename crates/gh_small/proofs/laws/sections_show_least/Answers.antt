use Rattle.gh_small.proofs.TraceLemmas.{sections_show}
use Rattle.gh_small.proofs.laws.sections_show_least.Goals as goal

pub returns : goal.returns
returns c = sections_show

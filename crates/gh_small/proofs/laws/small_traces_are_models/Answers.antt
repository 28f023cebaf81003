use Rattle.gh_small.proofs.TraceLemmas.{small_traces}
use Rattle.gh_small.proofs.laws.small_traces_are_models.Goals as goal

pub returns : goal.returns
returns c = small_traces

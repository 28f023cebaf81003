use Rattle.gh_model.proofs.heaps.HeapSteps.{news_are_built}
use Rattle.gh_model.proofs.laws.news_are_built.Goals as goal

pub returns : goal.returns
returns c = news_are_built

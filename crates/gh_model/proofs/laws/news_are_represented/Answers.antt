use Rattle.gh_model.proofs.heaps.StructureSteps.{news_are_represented}
use Rattle.gh_model.proofs.laws.news_are_represented.Goals as goal

pub returns : goal.returns
returns c = news_are_represented

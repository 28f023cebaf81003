use Rattle.gh_model.proofs.reading.StepFormulas.{news_are_preserved}
use Rattle.gh_model.proofs.laws.news_are_preserved.Goals as goal

pub returns : goal.returns
returns c = news_are_preserved

use Rattle.gh_top.proofs.OneText.{texts_are_one}
use Rattle.gh_top.proofs.laws.texts_are_one.Goals as goal

pub returns : goal.returns
returns c = texts_are_one

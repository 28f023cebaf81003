use Rattle.gh_smt.proofs.ReadingLemmas.{texts_are_one}
use Rattle.gh_smt.proofs.laws.texts_are_one.Goals as goal

pub returns : goal.returns
returns c = texts_are_one

use Rattle.gh_grass.proofs.LawLemmas.{definitions_exist}
use Rattle.gh_grass.proofs.laws.definitions_exist.Goals as goal

pub returns : goal.returns
returns c = definitions_exist

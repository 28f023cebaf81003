use Rattle.gh_path.proofs.Numbers.{numbers_are_there}
use Rattle.gh_path.proofs.laws.numbers_are_there.Goals as goal

pub returns : goal.returns
returns c = numbers_are_there

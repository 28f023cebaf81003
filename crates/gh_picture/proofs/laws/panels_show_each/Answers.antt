use Rattle.gh_picture.proofs.ShownLemmas.{shows_each}
use Rattle.gh_picture.proofs.laws.panels_show_each.Goals as goal

pub returns : goal.returns
returns c = shows_each

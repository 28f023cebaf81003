use Rattle.gh_draw.proofs.Texts.{drawing_told}
use Rattle.gh_draw.proofs.laws.drawings_are_told.Goals as goal

pub returns : goal.returns
returns c P n xs typed d = drawing_told P n xs typed d

use Rattle.gh_draw.proofs.Whole.{file_alone}
use Rattle.gh_draw.proofs.laws.drawings_are_files.Goals as goal

pub returns : goal.returns
returns c P n xs drawn = file_alone P n xs drawn

use Rattle.gh_draw.proofs.Shown.{file_one, file_shown}
use Rattle.gh_draw.proofs.laws.drawings_are_one.Goals as goal

pub returns : goal.returns
returns c P text n m xs ys f g = file_one P text n m xs ys (file_shown P text n xs f) (file_shown P text m ys g)

use Rattle.gh_draw.proofs.Drawable.{drawable_have_values}
use Rattle.gh_draw.proofs.laws.drawable_have_values.Goals as goal

pub returns : goal.returns
returns c = drawable_have_values

use Rattle.gh_picture.proofs.WellFormed.{tree_element}
use Rattle.gh_picture.proofs.laws.trees_are_elements.Goals as goal

pub returns : goal.returns
returns c = tree_element

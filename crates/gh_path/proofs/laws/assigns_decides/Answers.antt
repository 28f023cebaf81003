use Rattle.gh_path.proofs.FormLemmas.{assigns_decides}
use Rattle.gh_path.proofs.laws.assigns_decides.Goals as goal

pub returns : goal.returns
returns c = assigns_decides

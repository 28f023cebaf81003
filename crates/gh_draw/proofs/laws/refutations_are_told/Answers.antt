use Rattle.gh_draw.proofs.Refuted.{told_of_refuted}
use Rattle.gh_draw.proofs.laws.refutations_are_told.Goals as goal

pub returns : goal.returns
returns g P n c xs typed at refutes values = told_of_refuted P n c xs typed at refutes values

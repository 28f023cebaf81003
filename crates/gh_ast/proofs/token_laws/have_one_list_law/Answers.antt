use Rattle.gh_ast.proofs.TokenLemmas.{one_whole}
use Rattle.gh_ast.proofs.token_laws.have_one_list_law.Goals as goal

pub returns : goal.returns
returns c = one_whole

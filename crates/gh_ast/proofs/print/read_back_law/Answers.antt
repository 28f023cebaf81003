use Rattle.gh_ast.proofs.Shown.{read_back}
use Rattle.gh_ast.proofs.print.read_back_law.Goals as goal

pub returns : goal.returns
returns c = read_back

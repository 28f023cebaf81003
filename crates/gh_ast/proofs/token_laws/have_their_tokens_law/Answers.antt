use Rattle.gh_ast.proofs.Relexing.{line_reads}
use Rattle.gh_ast.proofs.token_laws.have_their_tokens_law.Goals as goal

pub returns : goal.returns
returns c = line_reads

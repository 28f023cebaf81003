use Rattle.gh_smt.proofs.ScriptLemmas.{scripts_decide}
use Rattle.gh_smt.proofs.laws.scripts_decide.Goals as goal

pub returns : goal.returns
returns c = scripts_decide

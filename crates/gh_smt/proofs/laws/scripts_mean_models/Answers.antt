use Rattle.gh_smt.proofs.ScriptLemmas.{scripts_mean_models}
use Rattle.gh_smt.proofs.laws.scripts_mean_models.Goals as goal

pub returns : goal.returns
returns c = scripts_mean_models

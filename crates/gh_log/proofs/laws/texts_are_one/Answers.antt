use Rattle.gh_log.proofs.LogLemmas.{one_text}
use Rattle.gh_log.proofs.laws.texts_are_one.Goals as goal

pub returns : goal.returns
returns c = one_text

use Rattle.gh_decide.proofs.Rules.{typed_keep_rules}
use Rattle.gh_decide.proofs.laws.typed_keep_rules.Goals as goal

pub returns : goal.returns
returns c = typed_keep_rules

use Rattle.gh_model.proofs.terms.BoundVariables.{only_variables_have_terms}
use Rattle.gh_model.proofs.laws.only_variables_have_terms.Goals as goal

pub returns : goal.returns
returns c = only_variables_have_terms

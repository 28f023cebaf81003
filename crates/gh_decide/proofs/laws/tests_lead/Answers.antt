use Rattle.gh_decide.proofs.Tests.{tests_lead}
use Rattle.gh_decide.proofs.laws.tests_lead.Goals as goal

pub returns : goal.returns
returns c = tests_lead

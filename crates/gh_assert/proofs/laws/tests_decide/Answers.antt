use Rattle.gh_assert.proofs.Tests.{tests_decide}
use Rattle.gh_assert.proofs.laws.tests_decide.Goals as goal

pub returns : goal.returns
returns c = tests_decide

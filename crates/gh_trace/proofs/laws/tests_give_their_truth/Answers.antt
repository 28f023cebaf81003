use Rattle.gh_trace.proofs.Meanings.{tests_give_their_truth}
use Rattle.gh_trace.proofs.laws.tests_give_their_truth.Goals as goal

pub returns : goal.returns
returns c s h t formed = tests_give_their_truth s h t formed

use Rattle.gh_machine.proofs.Kept.{results_apart, results_listed}
use Rattle.gh_machine.proofs.step.give.Goals as goal

pub assign-requires-clause-distinct : goal.assign-requires-clause-distinct
assign-requires-clause-distinct c =
    results_apart c.requires.made.0 c.args.config.now c.as_slice-results.result.now c.requires.made.1
    c.as_slice-results.ensures.value

pub assign-requires-clause-listed : goal.assign-requires-clause-listed
assign-requires-clause-listed c =
    results_listed c.requires.made.0 c.args.config.now c.as_slice-results.result.now c.requires.made.1
    c.as_slice-results.ensures.value

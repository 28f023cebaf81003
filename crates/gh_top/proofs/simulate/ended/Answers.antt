use Rattle.std.proofs.Common.{◌∙◌}
use Rattle.gh_run.specs.declared.simulate.Report.TheVariants as report
use Rattle.gh_top.specs.Runs.{IsRunReport}
use Rattle.gh_top.proofs.HeadlineLemmas.{both_ok}
use Rattle.gh_top.proofs.RunLemmas.{held_told, failed_told}
use Rattle.gh_top.proofs.simulate.ended.Goals as goal

pub returns-then-met : goal.returns-then-met
returns-then-met c =
    let k = c.args.steps in
    let x = c.args.state.now in
    both_ok c.told.result _ _ (λ r. IsRunReport (report.Ended k x c.args.met) r.status r.text) c.told.ensures.status
    c.told.ensures.text
    (λ r s t. held_told k x c.args.met c.as_str.result.now r.status r.text c.if-met.true
    (c.as_str.ensures.value ∙ c.in_ok-words.ensures.ok) s t)

pub returns : goal.returns
returns c =
    let k = c.args.steps in
    let x = c.args.state.now in
    both_ok c.told-2.result _ _ (λ r. IsRunReport (report.Ended k x c.args.met) r.status r.text) c.told-2.ensures.status
    c.told-2.ensures.text
    (λ r s t. failed_told k x c.args.met c.as_str-2.result.now r.status r.text c.if-met.false
    (c.as_str-2.ensures.value ∙ c.in_ok-words-2.ensures.ok) s t)

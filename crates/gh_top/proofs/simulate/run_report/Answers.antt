use Rattle.std.proofs.Common.{◌∙◌, refl}
use Rattle.gh_top.specs.Runs.{IsRunReport}
use Rattle.gh_top.proofs.HeadlineLemmas.{both_ok}
use Rattle.gh_top.proofs.RunLemmas.{unmet_told, stopped_told, faulted_told}
use Rattle.gh_top.proofs.simulate.run_report.Goals as goal

pub returns-in_ok-plain_line-in-Unmet : goal.returns-in_ok-plain_line-in-Unmet
returns-in_ok-plain_line-in-Unmet c =
    unmet_told c.args.report.now _ c.in_ok-plain_line-in-Unmet.field-0 c.in-Unmet.is refl
    c.in_ok-plain_line-in-Unmet.ensures

pub returns-in_ok-words-in-Stopped : goal.returns-in_ok-words-in-Stopped
returns-in_ok-words-in-Stopped c =
    both_ok c.told.result _ _ (λ r. IsRunReport c.args.report.now r.status r.text) c.told.ensures.status
    c.told.ensures.text
    (λ r s t. stopped_told c.args.report.now c.in-Stopped.steps c.in-Stopped.state c.as_str.result.now r.status r.text
    c.in-Stopped.is (c.as_str.ensures.value ∙ c.in_ok-words-in-Stopped.ensures.ok) s t)

pub returns-in_ok-words-in-Faulted : goal.returns-in_ok-words-in-Faulted
returns-in_ok-words-in-Faulted c =
    both_ok c.told-in-Faulted.result _ _ (λ r. IsRunReport c.args.report.now r.status r.text)
    c.told-in-Faulted.ensures.status c.told-in-Faulted.ensures.text
    (λ r s t. faulted_told c.args.report.now c.in-Faulted.steps c.in-Faulted.state c.as_str-in-Faulted.result.now
    r.status r.text c.in-Faulted.is (c.as_str-in-Faulted.ensures.value ∙ c.in_ok-words-in-Faulted.ensures.ok) s t)

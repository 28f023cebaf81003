use Rattle.std.proofs.Common.{map, ap, subst, ◌∙◌, IfOk}
use Rattle.gh_types.specs.Checks.{RepeatErrors}
use Rattle.gh_types.specs.Faults.{IsFirstOf}
use Rattle.gh_entail.proofs.admit.duplicate_name.Goals as goal

pub returns : goal.returns
returns c =
    subst (λ os. IfOk c.repeated.result (IsFirstOf (RepeatErrors 2 os)))
    (ap (map (λ o. o.now)) c.as_slice-2.ensures.value ∙ c.in_ok-variables.ensures ∙ c.as_slice.ensures.value)
    c.repeated.ensures

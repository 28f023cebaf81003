use Rattle.std.proofs.Common.{◌∙◌, ap, map}
use Rattle.gh_ast.specs.Plain.{assertion_of}
use Rattle.gh_ast.specs.Programs.{names}
use Rattle.gh_ast.specs.Bare.{bare_assertion}
use Rattle.gh_session.proofs.Assembling.{bare_all}
use Rattle.gh_session.proofs.essence.contract_of.Goals as goal

pub returns : goal.returns
returns c = λ i. record {
  parameters = (c.in_ok-names.ensures ∙ ap names c.as_slice.ensures.value) i;
  results = (c.in_ok-names-2.ensures ∙ ap names c.as_slice-2.ensures.value) i;
  needs = c.in_ok-assertion.ensures i;
  gives = (c.in_ok-assertions.ensures ∙ ap (map (λ f. bare_assertion (assertion_of f))) c.as_slice-3.ensures.value
      ∙ bare_all c.args.procedure.now.gives.items) i;
}

use Rattle.std.proofs.Common.{◌∙◌, ap, map}
use Rattle.gh_ast.specs.Plain.{assertion_of}
use Rattle.gh_ast.specs.Bare.{bare_assertion}
use Rattle.gh_session.proofs.Copies.{star_bare}
use Rattle.gh_session.proofs.bare.+assertion.Goals as goal

pub assertion-returns-in_ok-assertions-in-Star : goal.assertion-returns-in_ok-assertions-in-Star
assertion-returns-in_ok-assertions-in-Star t c =
    star_bare c.args.whole.now c.in_ok-assertions-in-Star.field-0 c.in-Star.members c.in-Star.is
    (c.in_ok-assertions-in-Star.ensures ∙ ap (map (λ f. bare_assertion (assertion_of f))) c.as_slice.ensures.value)

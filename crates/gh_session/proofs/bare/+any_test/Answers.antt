use Rattle.std.proofs.Common.{◌∙◌, ap, map}
use Rattle.gh_ast.specs.Plain.{cond_of}
use Rattle.gh_ast.specs.Bare.{bare_cond}
use Rattle.gh_session.proofs.Copies.{and_bare, or_bare}
use Rattle.gh_session.proofs.bare.+any_test.Goals as goal

pub test-returns-in_ok-tests-in-And : goal.test-returns-in_ok-tests-in-And
test-returns-in_ok-tests-in-And t c =
    and_bare c.args.test.now c.in_ok-tests-in-And.field-0 c.in-And.members c.in-And.is
    (c.in_ok-tests-in-And.ensures ∙ ap (map (λ t. bare_cond (cond_of t))) c.as_slice.ensures.value)

pub test-returns-in_ok-tests-in-Or : goal.test-returns-in_ok-tests-in-Or
test-returns-in_ok-tests-in-Or t c =
    or_bare c.args.test.now c.in_ok-tests-in-Or.field-0 c.in-Or.members c.in-Or.is
    (c.in_ok-tests-in-Or.ensures ∙ ap (map (λ t. bare_cond (cond_of t))) c.as_slice-in-Or.ensures.value)

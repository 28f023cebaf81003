use Rattle.std.proofs.Common.{◌∙◌, ap}
use Rattle.gh_ast.specs.Plain.{conds_view}
use Rattle.gh_ast.proofs.PlainLemmas.{test_of-And, test_of-Or}
use Rattle.gh_session.specs.Fingerprint as plain
use Rattle.gh_session.proofs.fingerprint.+any_test.Goals as goal

pub with_cond-returns-in-And : goal.with_cond-returns-in-And
with_cond-returns-in-And t c =
    rw (c.in-And.is, test_of-And c.in-And.members, ← c.as_slice.ensures.value)
    (c.with_conds.ensures ∙ ap (λ h. plain.with_conds h (conds_view c.as_slice.result.now)) c.mix-in-And.ensures)

pub with_cond-returns-in-Or : goal.with_cond-returns-in-Or
with_cond-returns-in-Or t c =
    rw (c.in-Or.is, test_of-Or c.in-Or.members, ← c.as_slice-in-Or.ensures.value)
    (c.with_conds-in-Or.ensures
    ∙ ap (λ h. plain.with_conds h (conds_view c.as_slice-in-Or.result.now)) c.mix-in-Or.ensures)

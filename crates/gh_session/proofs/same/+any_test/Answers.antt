use Rattle.std.proofs.Common.{◌∙◌, sym, ap, map}
use Rattle.gh_ast.specs.Plain.{cond_of}
use Rattle.gh_session.proofs.Sameness.{same_and, same_or}
use Rattle.gh_session.proofs.same.+any_test.Goals as goal

pub is_same_test-returns-in-And-other : goal.is_same_test-returns-in-And-other
is_same_test-returns-in-And-other t c =
    let r =
    same_and c.args.one.now c.args.other.now c.in-And.members c.in-And-other.parts c.in-And.is c.in-And-other.is in
    let a = ap (map cond_of) c.as_slice.ensures.value in
    let b = ap (map cond_of) c.as_slice-in-And.ensures.value in
    let w = c.are_same_tests.ensures in
    (λ h. r.0 (sym a ∙ w.0 h ∙ b), λ e. w.1 (a ∙ r.1 e ∙ sym b))

pub is_same_test-returns-in-Or-other : goal.is_same_test-returns-in-Or-other
is_same_test-returns-in-Or-other t c =
    let r = same_or c.args.one.now c.args.other.now c.in-Or.members c.in-Or-other.parts c.in-Or.is c.in-Or-other.is in
    let a = ap (map cond_of) c.as_slice-in-Or.ensures.value in
    let b = ap (map cond_of) c.as_slice-in-Or-2.ensures.value in
    let w = c.are_same_tests-in-Or.ensures in
    (λ h. r.0 (sym a ∙ w.0 h ∙ b), λ e. w.1 (a ∙ r.1 e ∙ sym b))

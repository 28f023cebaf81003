use Rattle.std.proofs.Common.{◌∙◌, sym, ap, map}
use Rattle.gh_ast.specs.Plain.{assertion_of}
use Rattle.gh_session.proofs.Sameness.{same_star}
use Rattle.gh_session.proofs.same.+assertion.Goals as goal

pub is_same_assertion-returns-in-Star-other : goal.is_same_assertion-returns-in-Star-other
is_same_assertion-returns-in-Star-other t c =
    let r =
    same_star c.args.one.now c.args.other.now c.in-Star.members c.in-Star-other.parts c.in-Star.is
    c.in-Star-other.is in
    let a = ap (map assertion_of) c.as_slice.ensures.value in
    let b = ap (map assertion_of) c.as_slice-in-Star.ensures.value in
    let w = c.are_same_assertions.ensures in
    (λ h. r.0 (sym a ∙ w.0 h ∙ b), λ e. w.1 (a ∙ r.1 e ∙ sym b))

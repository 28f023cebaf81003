use Rattle.std.proofs.Common.{[], ◌∷◌, ◌++◌, ◌∙◌, ap, subst}
use Rattle.std.specs.Prelude.{All}
use Rattle.gh_ast.specs.Questions.{question_of}
use Rattle.gh_draw.specs.Drawn.{drawing_text, HasValues}
use Rattle.gh_top.proofs.QuestionLemmas.{failing_report}
use Rattle.gh_top.proofs.entail.not_entailed.Goals as goal

pub returns-clause-text : goal.returns-clause-text
returns-clause-text c =
    let q = question_of c.args.asked.now.question in
    let one = c.in_ok-push.ensures.items ∙ ap (λ xs. xs ++ c.args.state ∷ []) c.new-states.ensures.items in
    failing_report q c.args.state c.in_ok-drawn.drawn c.in_ok-text.text c.push-2.new.self
    c.args.asked.now.admitted.typed c.requires (subst (All HasValues) one c.in_ok-drawn.ensures.values)
    (c.in_ok-drawn.ensures.text ∙ ap (drawing_text 1) one) c.in_ok-text.ensures
    (c.in_ok-push-2.ensures.ok ∙ ap (λ t. c.in_ok-text.text ++ t) c.bytes.ensures)

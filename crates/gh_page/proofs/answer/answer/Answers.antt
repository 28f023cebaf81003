use Rattle.std.proofs.Common.{◌≡◌, ◌∙◌, ap, sym, true, Some}
use Rattle.gh_page.specs.Answering.{is_answer}
use Rattle.gh_page.specs.Modes.{table_over}
use Rattle.gh_page.proofs.Answered.{answered}
use Rattle.gh_page.proofs.answer.answer.Goals as goal

pub returns : goal.returns
returns c =
    let t = c.new-inputs.result.first.now in
    let u = c.new-inputs.result.second.now in
    let done : is_answer c.run-status.result ≡ true = sym c.is_answer.ensures ∙ c.if-not-is_answer.false in
    answered c.args.mode c.args.text.now c.args.second.now c.in_ok-words.words _ _ c.run-status.result c.about.result
    c.in_ok-words.ensures
    (ap (λ x. Some (table_over x u)) c.new-inputs.ensures.first
    ∙ ap (λ x. Some (table_over c.args.text.now x)) c.new-inputs.ensures.second)
    (ap (λ x. Some x) c.new-out.ensures) (ap (λ x. Some x) (sym (c.about.ensures.text ∙ c.into_text.ensures)))
    c.about.ensures.status done c.run-status.ensures.answer

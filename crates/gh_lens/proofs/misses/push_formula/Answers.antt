use Rattle.std.proofs.Common.{◌≡◌, ◌++◌, ◌∙◌, sym, ap}
use Rattle.std.specs.Prelude.{codes}
use Rattle.std.proofs.lemmas.Result.{IfOk-weaker}
use Rattle.gh_ast.specs.Plain.{assertion_of}
use Rattle.gh_ast.proofs.PlainLemmas.{formula_of-Star}
use Rattle.gh_lens.specs.Misses.{assertion_text}
use Rattle.gh_lens.proofs.misses.push_formula.Goals as goal

pub returns-in-Star : goal.returns-in-Star
returns-in-Star c =
    let old = c.args.text.now in
    let told : assertion_text (assertion_of c.args.assertion.now) ≡ codes "a conjunction" =
    ap (λ a. assertion_text (assertion_of a)) c.in-Star.is
    ∙ ap assertion_text (formula_of-Star c.in-Star.field-0) in
    IfOk-weaker c.push-in-Star.result _
    (λ x. c.push-in-Star.new.self ≡ old ++ assertion_text (assertion_of c.args.assertion.now))
    (λ r added. added ∙ ap (λ t. old ++ t) (sym told)) c.push-in-Star.ensures.ok

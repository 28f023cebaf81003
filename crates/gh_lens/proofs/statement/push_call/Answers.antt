use Rattle.std.proofs.Common.{◌++◌, ◌∙◌, sym, ap}
use Rattle.std.proofs.lemmas.List.{append-nil}
use Rattle.std.proofs.lemmas.Result.{on_ok_weaker}
use Rattle.gh_ast.specs.Programs.{names}
use Rattle.gh_lens.specs.Statements.{call_text, called_text}
use Rattle.gh_lens.proofs.statement.push_call.Goals as goal

pub returns-in-Some : goal.returns-in-Some
returns-in-Some c =
    let old = c.args.text.now in
    let xs = names c.args.targets.now in
    let es = c.args.arguments.now in
    on_ok_weaker c.push_call_of.result
    (λ added. added ∙ ap (λ f. old ++ call_text xs f es) c.bytes.ensures.text
    ∙ ap (λ q. old ++ called_text q xs es) (sym c.in-Some.ensures.some)) c.push_call_of.ensures

pub returns-in-None : goal.returns-in-None
returns-in-None c =
    let old = c.args.text.now in
    sym (append-nil old) ∙ ap (λ q. old ++ called_text q (names c.args.targets.now) c.args.arguments.now)
    (sym c.in-None.ensures.none)

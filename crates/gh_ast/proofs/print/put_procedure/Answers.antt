use Rattle.std.proofs.Common.{[], ◌∷◌, ◌++◌, map, subst}
use Rattle.gh_ast.specs.declared.sign.Sign.TheVariants.{Comma, ParenOpen, ParenClose}
use Rattle.gh_ast.specs.declared.sign.Keyword.TheVariants as kw
use Rattle.gh_ast.specs.Plain.{assertion_of}
use Rattle.gh_ast.specs.Printed.{Adds, reserved, word, mark, with_signs, parameter_shown, results_shown}
use Rattle.gh_ast.specs.Printed.{alternatives_shown}
use Rattle.gh_ast.proofs.Printing.{and_then}
use Rattle.gh_ast.proofs.print.put_procedure.Goals as goal

pub returns : goal.returns
returns c =
    let p = c.args.procedure.now in
    let head = subst (λ x. Adds c.args.out.now c.put_head.new.out
    (reserved kw.Procedure ∷ word p.name.name ∷ mark ParenOpen ∷ with_signs parameter_shown Comma x
    ++ mark ParenClose ∷ []))
    c.as_slice.ensures.value c.in_ok-put_head.ensures in
    let results =
    subst (λ x. Adds c.put_head.new.out c.put_results.new.out (results_shown x)) c.as_slice-2.ensures.value
    c.in_ok-put_results.ensures in
    let ensures = subst (λ x. Adds c.put_requires.new.out c.put_ensures.new.out
    (reserved kw.Ensures ∷ alternatives_shown (map assertion_of x))) c.as_slice-3.ensures.value
    c.in_ok-put_ensures.ensures in
    and_then (and_then (and_then (and_then head results) c.in_ok-put_requires.ensures) ensures) c.in_ok-put_rest.ensures

use Rattle.std.proofs.Common.{[], ◌∷◌, subst}
use Rattle.gh_ast.specs.declared.sign.Keyword.TheVariants.{Next, Node}
use Rattle.gh_ast.specs.Printed.{Adds, word_or}
use Rattle.gh_ast.proofs.Printing.{and_then, as_word}
use Rattle.gh_ast.proofs.print.put_field.Goals as goal

pub returns : goal.returns
returns c =
    let f = c.args.field.now in
    let name = as_word Next f.name.name c.in_ok-put_name.ensures in
    let kind =
    subst (λ w. Adds c.put_sign.new.out c.put.new.out (word_or Node w ∷ [])) c.bytes.ensures.text
    (as_word Node c.bytes.result.now c.in_ok-put.ensures) in
    and_then (and_then (and_then (and_then c.in_ok-put_key.ensures name) c.in_ok-put_sign.ensures) kind)
    c.in_ok-put_sign-2.ensures

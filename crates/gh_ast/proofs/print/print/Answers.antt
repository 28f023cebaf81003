use Rattle.std.proofs.Common.{◌≡◌, codes, List, [], ◌∷◌, ◌++◌, map, ◌∙◌, ap, subst}
use Rattle.std.specs.List.{flat_map}
use Rattle.gh_ast.specs.Plain.{procedure_of}
use Rattle.gh_ast.specs.Printed.{Lexeme, reserved, mark, Adds, field_shown, procedure_shown, spaced}
use Rattle.gh_ast.specs.declared.Program.{Program}
use Rattle.gh_ast.specs.declared.sign.Sign.TheVariants.{BraceOpen, BraceClose}
use Rattle.gh_ast.specs.declared.sign.Keyword.TheVariants.{Node}
use Rattle.gh_ast.proofs.Printing.{and_then}
use Rattle.gh_ast.proofs.print.print.Goals as goal

abbrev tail : Program → List Lexeme
tail p =
    reserved Node ∷ mark BraceOpen ∷ flat_map field_shown p.fields.items
    ++ mark BraceClose ∷ flat_map procedure_shown (map procedure_of p.procedures.items)

pub returns : goal.returns
returns c =
    let fields =
    subst (λ x. Adds c.put_sign.new.out c.put_fields.new.out (flat_map field_shown x)) c.as_slice.ensures.value
    c.in_ok-put_fields.ensures in
    let procedures = subst (λ x. Adds c.put_sign-2.new.out c.put_procedures.new.out
    (flat_map procedure_shown (map procedure_of x))) c.as_slice-2.ensures.value c.in_ok-put_procedures.ensures in
    let rest =
    and_then (and_then (and_then c.in_ok-put_key.ensures c.in_ok-put_sign.ensures) fields)
    (and_then c.in_ok-put_sign-2.ensures procedures) in
    let start : c.push.new.self ≡ codes "struct" =
    c.in_ok-push.ensures.ok ∙ ap (λ x. x ++ c.text.result.now) c.new-text.ensures ∙ c.text.ensures in
    let all = rest.same ∙ ap (λ x. x ++ spaced (tail c.args.program.now)) start in
    c.in_ok-push-2.ensures.ok ∙ ap (λ x. x ++ 10 ∷ []) all

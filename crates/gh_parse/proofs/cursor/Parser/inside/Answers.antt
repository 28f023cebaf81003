use Rattle.gh_ast.specs.Plain.{block_of}
use Rattle.gh_parse.proofs.Rules.{by, form, told, begins_not, first, after}
use Rattle.gh_parse.proofs.Exits.{exit}
use Rattle.gh_parse.proofs.ProcedureForms.{make_declared, part_declared, make_adds, part_adds, make_body, part_body}
use Rattle.gh_parse.proofs.ProcedureForms.{ends_inside, inside_more, inside_less, inside_spelled}
use Rattle.gh_parse.proofs.cursor.Parser.inside.Goals as goal

pub declarations-smaller : goal.declarations-smaller
declarations-smaller c = inside_less c.in_ok-expect_key.ensures c.in_ok-declaration.ensures

pub declarations-preserved : goal.declarations-preserved
declarations-preserved c = inside_more c.declarations.invariant c.in_ok-expect_key.ensures c.in_ok-declaration.ensures

pub returns-in_err-declaration : goal.returns-in_err-declaration
returns-in_err-declaration c =
    exit _ _ _
    (λ s. c.declarations.invariant.back _
    (by make_declared (told _ _ _ c.in_ok-expect_key.ensures part_declared)
    (after _ c.in_ok-expect_key.ensures (first ends_inside (form part_adds make_adds s)))))
    c.in_err-declaration.ensures c.from_residual-in_err-declaration.ensures.1

pub returns-in_err-block : goal.returns-in_err-block
returns-in_err-block c =
    exit _ _ _ (λ s. c.declarations.invariant.back _
    (by make_body (λ xs r d h. part_body xs r (begins_not c.declarations-test.ensures d) h) s))
    c.in_err-block.ensures
    c.from_residual-in_err-block.ensures.1

pub returns : goal.returns
returns c = inside_spelled {p = block_of c.in_ok-block.block} c.declarations.invariant c.in_ok-block.ensures

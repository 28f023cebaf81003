use Rattle.gh_ast.specs.Grammar.{params}
use Rattle.gh_parse.proofs.Rules.{by, begins_not}
use Rattle.gh_parse.proofs.Exits.{along}
use Rattle.gh_parse.proofs.ProcedureForms.{make_header, part_header, header_none}
use Rattle.gh_parse.proofs.cursor.Parser.header.Goals as goal

pub returns-then-not-is_sign : goal.returns-then-not-is_sign
returns-then-not-is_sign c =
    along _ _ (λ x h. params h)
    (λ s. by make_header (λ xs r d h. part_header xs r (begins_not c.if-not-is_sign.ensures d) h) s)
    c.parameters.ensures

pub returns : goal.returns
returns c = header_none c.in_ok-expect_sign.ensures c.new.ensures.items

use Rattle.std.proofs.Common.{refl}
use Rattle.gh_ast.specs.Tokens.{first_place}
use Rattle.gh_parse.proofs.Rules.{by, begins_not, at_same}
use Rattle.gh_parse.proofs.Exits.{exit, missing}
use Rattle.gh_parse.proofs.TestForms.{make_unequal, part_unequal}
use Rattle.gh_parse.proofs.cursor.Parser.comparison_sign.Goals as goal

pub returns-in_err-expect_sign : goal.returns-in_err-expect_sign
returns-in_err-expect_sign c =
    exit _ _ _ (λ s. by make_unequal (λ xs r d h. part_unequal xs r (begins_not c.in_default.ensures.taken d) h)
    (at_same c.in_default.ensures.stays s))
    (missing _ _ _ _ _ first_place refl c.in_err-expect_sign.ensures) c.from_residual.ensures.1

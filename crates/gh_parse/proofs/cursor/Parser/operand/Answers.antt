use Rattle.std.proofs.Common.{refl, sym, subst, ◌∙◌}
use Rattle.gh_ast.specs.declared.Operand.TheVariants.{Null, Var}
use Rattle.gh_ast.specs.Grammar.{SpellsOperand, null_operand, variable}
use Rattle.gh_parse.specs.Views.{tokens_of}
use Rattle.gh_parse.proofs.Rules.{at_same}
use Rattle.gh_parse.proofs.ValueForms.{in_operand, a_name}
use Rattle.gh_parse.proofs.Exits.{exit, missing}
use Rattle.gh_parse.proofs.cursor.Parser.operand.Goals as goal

pub returns-in_err-expect_name : goal.returns-in_err-expect_name
returns-in_err-expect_name c =
    exit _ _ _ (λ s. in_operand c.in_default.ensures.taken (at_same c.in_default.ensures.stays s))
    (missing _ _ _ _ _ a_name refl c.in_err-expect_name.ensures)
    c.from_residual.ensures.1

pub returns-in-Some : goal.returns-in-Some
returns-in-Some c =
    subst (λ ts. SpellsOperand ts (Null c.in-Some.span) (tokens_of c.take_key.new.self.rest.now))
    (sym c.in-Some.ensures.taken) null_operand

pub returns : goal.returns
returns c =
    subst (λ ts. SpellsOperand ts (Var c.in_ok-expect_name.field-0) (tokens_of c.expect_name.new.self.rest.now))
    (sym (sym c.in_default.ensures.stays ∙ c.in_ok-expect_name.ensures)) variable

use Rattle.std.proofs.Common.{◌≡◌, ◌∙◌, ap}
use Rattle.gh_ast.specs.declared.Expr.TheVariants.{Plain}
use Rattle.gh_ast.specs.declared.Operand.TheVariants.{Var}
use Rattle.gh_parse.proofs.calls.variable_of.Goals as goal

pub returns-in_default : goal.returns-in_default
returns-in_default c o e = c.in_default.not-Plain (Var o) e

pub returns-in_default-operand : goal.returns-in_default-operand
returns-in_default-operand c o e =
    let f = c.in-Plain.is in
    let p : c.in-Plain.operand ≡ Var o = cc in
    c.in_default-operand.not-Var o p

pub returns : goal.returns
returns c = c.in-Plain.is ∙ ap Plain c.in-Var.is

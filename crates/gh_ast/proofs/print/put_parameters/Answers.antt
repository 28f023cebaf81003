use Rattle.std.proofs.Common.{arith}
use Rattle.gh_ast.specs.declared.sign.Sign.TheVariants.{Comma}
use Rattle.gh_ast.specs.Printed.{parameter_shown}
use Rattle.gh_ast.proofs.Printing.{turn}
use Rattle.gh_ast.proofs.print.put_parameters.Goals as goal

pub loop-parameter-preserved : goal.loop-parameter-preserved
loop-parameter-preserved c =
    turn parameter_shown Comma c.in-Some.rest.now c.loop-parameter.parameter-index c.parameter-item.result (omega arith)
    c.parameter-item.is
    c.loop-parameter.invariant c.in_ok-put_sign.ensures c.in_ok-put_parameter-2.ensures

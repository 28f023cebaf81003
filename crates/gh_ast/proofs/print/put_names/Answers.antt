use Rattle.std.proofs.Common.{arith}
use Rattle.gh_ast.specs.declared.sign.Sign.TheVariants.{Comma}
use Rattle.gh_ast.specs.Printed.{name_shown}
use Rattle.gh_ast.proofs.Printing.{turn}
use Rattle.gh_ast.proofs.print.put_names.Goals as goal

pub loop-name-preserved : goal.loop-name-preserved
loop-name-preserved c =
    turn name_shown Comma c.in-Some.rest.now c.loop-name.name-index c.name-item.result (omega arith) c.name-item.is
    c.loop-name.invariant c.in_ok-put_sign.ensures c.in_ok-put_name-2.ensures

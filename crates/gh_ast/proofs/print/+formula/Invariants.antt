use Rattle.std.proofs.Common.{take}
use Rattle.gh_ast.specs.declared.sign.Sign.TheVariants.{Star}
use Rattle.gh_ast.specs.Printed.{Adds, followed}
use Rattle.gh_ast.proofs.Printing.{item_shown}
use Rattle.gh_ast.proofs.print.+formula.Given as goal

abbrev pub invariant-put_items-loop-item : goal.invariant-put_items-loop-item
invariant-put_items-loop-item l = Adds l.initial.out l.out (followed item_shown Star (take l.item-index l.rest))

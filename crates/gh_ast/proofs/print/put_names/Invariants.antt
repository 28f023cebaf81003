use Rattle.std.proofs.Common.{take}
use Rattle.gh_ast.specs.declared.sign.Sign.TheVariants.{Comma}
use Rattle.gh_ast.specs.Printed.{Adds, followed, name_shown}
use Rattle.gh_ast.proofs.print.put_names.Given as goal

abbrev pub invariant-loop-name : goal.invariant-loop-name
invariant-loop-name l = Adds l.initial.out l.out (followed name_shown Comma (take l.name-index l.rest))

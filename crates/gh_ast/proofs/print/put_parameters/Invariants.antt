use Rattle.std.proofs.Common.{take}
use Rattle.gh_ast.specs.declared.sign.Sign.TheVariants.{Comma}
use Rattle.gh_ast.specs.Printed.{Adds, followed, parameter_shown}
use Rattle.gh_ast.proofs.print.put_parameters.Given as goal

abbrev pub invariant-loop-parameter : goal.invariant-loop-parameter
invariant-loop-parameter l = Adds l.initial.out l.out (followed parameter_shown Comma (take l.parameter-index l.rest))

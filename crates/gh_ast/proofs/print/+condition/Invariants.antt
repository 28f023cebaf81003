use Rattle.std.proofs.Common.{take}
use Rattle.gh_ast.specs.Printed.{Adds, followed}
use Rattle.gh_ast.proofs.Printing.{member_shown}
use Rattle.gh_ast.proofs.print.+condition.Given as goal

abbrev pub invariant-put_tests-loop-test : goal.invariant-put_tests-loop-test
invariant-put_tests-loop-test l = Adds l.initial.out l.out (followed member_shown l.between (take l.test-index l.rest))

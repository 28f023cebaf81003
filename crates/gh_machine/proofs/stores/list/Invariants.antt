use Rattle.std.proofs.Common.{◌≡◌, ◌++◌, take}
use Rattle.gh_ast.specs.Programs.{names}
use Rattle.gh_machine.specs.Configs.{beside}
use Rattle.gh_machine.proofs.stores.list.Given as goal

abbrev pub invariant-loop-i : goal.invariant-loop-i
invariant-loop-i l = l.store ≡ l.fn.store ++ beside (names (take l.i l.variables)) (take l.i l.values)

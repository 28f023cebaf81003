use Rattle.std.proofs.Common.{◌≡◌, ◌++◌, take}
use Rattle.gh_ast.specs.Programs.{names}
use Rattle.gh_draw.proofs.reading.push_names.Given as goal

abbrev pub invariant-loop-variable : goal.invariant-loop-variable
invariant-loop-variable l = l.all.items ≡ l.initial.all.items ++ names (take l.variable-index l.variables)

use Rattle.std.proofs.Common.{ℕ, ◌<◌, ◌≤◌, get_or, length, map}
use Rattle.gh_ast.specs.Plain.{Procedure, procedure_of}
use Rattle.gh_ast.specs.Occurrences.{variables_of}
use Rattle.gh_types.proofs.limits.variables_limit.Given as goal

abbrev pub invariant-loop-procedure : goal.invariant-loop-procedure
invariant-loop-procedure l =
    (j : ℕ) (d : Procedure) → j < l.procedure-index
    → length (variables_of (get_or (map procedure_of l.procedures) j d)) ≤ 32

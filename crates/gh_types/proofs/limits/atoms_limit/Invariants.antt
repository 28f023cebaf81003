use Rattle.std.proofs.Common.{ℕ, ◌<◌, ◌≤◌, get_or, map}
use Rattle.std.specs.Prelude.{All}
use Rattle.gh_ast.specs.Plain.{Procedure, procedure_of}
use Rattle.gh_ast.specs.Limits.{atom_counts}
use Rattle.gh_types.proofs.limits.atoms_limit.Given as goal

abbrev pub invariant-loop-procedure : goal.invariant-loop-procedure
invariant-loop-procedure l =
    (j : ℕ) (d : Procedure) → j < l.procedure-index
    → All (λ n. n ≤ 32) (atom_counts (get_or (map procedure_of l.procedures) j d))

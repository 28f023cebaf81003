use Rattle.std.proofs.Common.{List, map, take}
use Rattle.gh_ast.specs.declared.Occ.{Occ}
use Rattle.gh_types.specs.Faults.{IsFirstIn}
use Rattle.gh_types.specs.Tables.{IsTableOf}
use Rattle.gh_entail.specs.Checks.{UndeclaredErrors}
use Rattle.gh_entail.proofs.admit.first_undeclared.Given as goal

abbrev pub invariant-loop-occurrence : goal.invariant-loop-occurrence
invariant-loop-occurrence l =
    (vs : List Occ) → IsTableOf (map (λ o. o.name) vs) l.names.places
    → IsFirstIn (λ b. UndeclaredErrors vs b.now) (take l.occurrence-index l.occurrences) l.first

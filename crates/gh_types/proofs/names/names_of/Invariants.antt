use Rattle.std.proofs.Common.{map, take}
use Rattle.gh_types.specs.Tables.{IsTableOf}
use Rattle.gh_types.proofs.names.names_of.Given as goal

abbrev pub invariant-loop-place : goal.invariant-loop-place
invariant-loop-place l = IsTableOf (map (λ o. o.name) (map (λ o. o.now) (take l.place l.occurrences))) l.names.places

use Rattle.std.proofs.Common.{map, take}
use Rattle.gh_types.specs.Checks.{RepeatErrors}
use Rattle.gh_types.specs.Faults.{IsFirstOf}
use Rattle.gh_types.specs.Tables.{IsTableOf}
use Rattle.gh_types.proofs.names.repeated.Given as goal

abbrev pub invariant-loop-place : goal.invariant-loop-place
invariant-loop-place l = record {
  table : IsTableOf (map (λ o. o.name) (map (λ o. o.now) (take l.place l.occurrences))) l.names.places;
  first : IsFirstOf (RepeatErrors l.number (map (λ o. o.now) (take l.place l.occurrences))) l.first;
}

use Rattle.std.proofs.Common.{◌≡◌, map, take}
use Rattle.gh_types.proofs.names.procedure_names.Given as goal

abbrev pub invariant-loop-procedure : goal.invariant-loop-procedure
invariant-loop-procedure l = map (λ o. o.now) l.names.items ≡ map (λ p. p.name) (take l.procedure-index l.procedures)

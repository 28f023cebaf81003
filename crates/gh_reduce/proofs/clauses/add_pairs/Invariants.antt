use Rattle.std.proofs.Common.{◌≡◌, ◌++◌, ◌∷◌, [], map, take}
use Rattle.gh_reduce.proofs.clauses.add_pairs.Given as goal

abbrev pub invariant-loop-lit : goal.invariant-loop-lit
invariant-loop-lit l =
    l.ground ≡ record l.initial.ground
    { clauses = l.initial.ground.clauses ++ map (λ x. l.first ∷ x ∷ []) (take l.lit-index l.lits) }

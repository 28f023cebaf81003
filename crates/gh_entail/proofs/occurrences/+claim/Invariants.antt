use Rattle.std.proofs.Common.{◌≡◌, ◌++◌, map, drop}
use Rattle.gh_ast.specs.Questions.{claims_view}
use Rattle.gh_entail.specs.Rules.{in_claims}
use Rattle.gh_entail.proofs.occurrences.+claim.Given as goal

abbrev pub invariant-add_claims-loop-claim : goal.invariant-add_claims-loop-claim
invariant-add_claims-loop-claim l =
    map (λ o. o.now) l.found.items ++ in_claims (claims_view (drop l.claim-index l.claims))
    ≡ map (λ o. o.now) l.initial.found.items ++ in_claims (claims_view l.claims)

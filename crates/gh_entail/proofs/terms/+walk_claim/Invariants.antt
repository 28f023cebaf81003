use Rattle.std.proofs.Common.{◌≡◌, drop}
use Rattle.gh_symb.specs.Tables.{state}
use Rattle.gh_entail.specs.Terms.{claims_walked}
use Rattle.gh_ast.specs.Questions.{claims_view}
use Rattle.gh_entail.proofs.terms.+walk_claim.Given as goal

abbrev pub invariant-walk_claims-loop-claim : goal.invariant-walk_claims-loop-claim
invariant-walk_claims-loop-claim l =
    claims_walked l.negative (claims_view (drop l.claim-index l.claims)) (state l.kinds l.scope 0)
    ≡ claims_walked l.negative (claims_view l.claims) (state l.initial.kinds l.initial.scope 0)

-- The plain forms of claims and questions: each `Vec` is the list of its members.
use Rattle.std.specs.Prelude.{List, [], ◌∷◌, map}
use Rattle.gh_base.specs.declared.place.Span.{Span}
use Rattle.gh_ast.specs.declared.Occ.{Occ}
use Rattle.gh_ast.specs.declared.question.Claim as kept
use Rattle.gh_ast.specs.declared.question.Claim.TheOpen.{Claim-F}
use Rattle.gh_ast.specs.declared.question.Claim.TheFolds.{fold-Claim}
use Rattle.gh_ast.specs.declared.question.Question as kept_question
use Rattle.gh_ast.specs.Plain.{Assertion, assertion_of}

-- a claim: an assertion, what is denied, all of some claims, one of some claims
mutual
  pub data Claim : Type 0 where
    leaf : Assertion → Claim
    denial : Claim → Claim
    every : Claims → Claim
    either : Claims → Claim

  pub data Claims : Type 0 where
    no_claims : Claims
    claim_first : Claim → Claims → Claims

abbrev pub claims_of : List Claim → Claims
claims_of [] = no_claims
claims_of (c ∷ cs) = claim_first c (claims_of cs)

abbrev pub claim_step : Claim-F Claim → Claim
claim_step (Claim-F.Leaf f) = leaf (assertion_of f)
claim_step (Claim-F.Not b) = denial b.value
claim_step (Claim-F.And v) = every (claims_of v.items)
claim_step (Claim-F.Or v) = either (claims_of v.items)

abbrev pub claim_of : kept.Claim → Claim
claim_of = fold-Claim Claim claim_step

abbrev pub claims_view : List kept.Claim → Claims
claims_view cs = claims_of (map claim_of cs)

-- a question: its variables, the place of the word `requires`, and its two claims
pub record Question : Type 0 where
  pub variables : List Occ
  pub span : Span
  pub left : Claim
  pub right : Claim

abbrev pub question_of : kept_question.Question → Question
question_of q = record {
  variables = q.variables.items;
  span = q.span;
  left = claim_of q.left;
  right = claim_of q.right;
}

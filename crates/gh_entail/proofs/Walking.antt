-- The walk of a question adds terms, and each variable's term is listed.
use Rattle.std.specs.Prelude.{Bool, true, false, not}
use Rattle.std.proofs.Common.{refl, arith}
use Rattle.gh_path.specs.Terms.{Terms, walked, no_terms}
use Rattle.gh_model.proofs.terms.Extension.{Grows, stays, onto, value_within, walked_grows}
use Rattle.gh_model.proofs.terms.Bounds.{IsBounded, more_kinds, walked_bounded}
use Rattle.gh_ast.specs.Questions.{Claim, leaf, denial, every, either, Claims, no_claims, claim_first, Question}
use Rattle.gh_entail.specs.Terms.{witnessed, claim_walked, claims_walked, question_walked}

pub witness_grows : (negative : Bool) (s : Terms) → Grows s (witnessed negative s)
witness_grows true s = record { kinds = value_within s.kinds; bindings = λ y j e. e; version = refl }
witness_grows false s = stays s

pub leaf_grows : (negative : Bool) (s t : Terms) → Grows (witnessed negative s) t → Grows s t
leaf_grows negative s t g = onto (witness_grows negative s) g

mutual
  pub claim_grows : (c : Claim) (negative : Bool) (s : Terms) → Grows s (claim_walked negative c s)
  claim_grows (leaf f) negative s = onto (walked_grows f s) (witness_grows negative (walked f s))
  claim_grows (denial c) negative s = claim_grows c (not negative) s
  claim_grows (every cs) negative s = claims_grow cs negative s
  claim_grows (either cs) negative s = claims_grow cs negative s

  pub claims_grow : (cs : Claims) (negative : Bool) (s : Terms) → Grows s (claims_walked negative cs s)
  claims_grow no_claims negative s = stays s
  claims_grow (claim_first c cs) negative s =
      onto (claim_grows c negative s) (claims_grow cs negative (claim_walked negative c s))

pub question_grows : (q : Question) → Grows no_terms (question_walked q)
question_grows q =
    onto (claim_grows q.left false no_terms) (claim_grows q.right true (claim_walked false q.left no_terms))

witness_bounded : (negative : Bool) (s : Terms) → IsBounded s → IsBounded (witnessed negative s)
witness_bounded true s B = more_kinds s (witnessed true s) (value_within s.kinds) refl B
witness_bounded false s B = B

mutual
  claim_bounded : (c : Claim) (negative : Bool) (s : Terms) → IsBounded s → IsBounded (claim_walked negative c s)
  claim_bounded (leaf f) negative s B = witness_bounded negative (walked f s) (walked_bounded f s B)
  claim_bounded (denial c) negative s B = claim_bounded c (not negative) s B
  claim_bounded (every cs) negative s B = claims_bounded cs negative s B
  claim_bounded (either cs) negative s B = claims_bounded cs negative s B

  claims_bounded : (cs : Claims) (negative : Bool) (s : Terms) → IsBounded s → IsBounded (claims_walked negative cs s)
  claims_bounded no_claims negative s B = B
  claims_bounded (claim_first c cs) negative s B =
      claims_bounded cs negative (claim_walked negative c s) (claim_bounded c negative s B)

pub nothing_bounded : IsBounded no_terms
nothing_bounded = record { some = omega arith; below = λ y t e. absurd cc }

pub question_bounded : (q : Question) → IsBounded (question_walked q)
question_bounded q =
    claim_bounded q.right true (claim_walked false q.left no_terms)
    (claim_bounded q.left false no_terms nothing_bounded)

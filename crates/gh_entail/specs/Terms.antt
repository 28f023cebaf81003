-- The terms of a question, in order: null, then those of its leaves from left to right, and after each negative leaf
-- one more value, its witness.
use Rattle.std.specs.Prelude.{◌≡◌, List, Bool, true, false, not}
use Rattle.gh_path.specs.Terms.{Kind, with_value, Terms, terms, walked, no_terms}
use Rattle.gh_symb.specs.Tables.{Pairs, state}
use Rattle.gh_ast.specs.Questions.{Claim, leaf, denial, every, either, Claims, no_claims, claim_first, Question}

-- one more value after a negative leaf
abbrev pub witnessed : Bool → Terms → Terms
witnessed true s = terms (with_value s.kinds) s.bindings s.version
witnessed false s = s

-- the terms after a claim; `negative` is true where the claim stands under an odd number of negations
abbrev mutual
  pub claim_walked : Bool → Claim → Terms → Terms
  claim_walked negative (leaf f) s = witnessed negative (walked f s)
  claim_walked negative (denial c) s = claim_walked (not negative) c s
  claim_walked negative (every cs) s = claims_walked negative cs s
  claim_walked negative (either cs) s = claims_walked negative cs s

  pub claims_walked : Bool → Claims → Terms → Terms
  claims_walked negative no_claims s = s
  claims_walked negative (claim_first c cs) s = claims_walked negative cs (claim_walked negative c s)

-- kinds and names with terms, in version 0, before and after the walk over a claim, and over claims
abbrev pub WalksClaim : Bool → Claim → List Kind → Pairs → List Kind → Pairs → Type 0
WalksClaim negative c ks es new_ks new_es = state new_ks new_es 0 ≡ claim_walked negative c (state ks es 0)

abbrev pub WalksClaims : Bool → Claims → List Kind → Pairs → List Kind → Pairs → Type 0
WalksClaims negative cs ks es new_ks new_es = state new_ks new_es 0 ≡ claims_walked negative cs (state ks es 0)

-- the whole right claim counts as negated once more
abbrev pub question_walked : Question → Terms
question_walked q = claim_walked true q.right (claim_walked false q.left no_terms)

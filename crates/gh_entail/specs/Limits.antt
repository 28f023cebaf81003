-- The limits on a question: its variables, the atoms of all its assertions together, its terms.
use Rattle.std.specs.Prelude.{◌≡◌, ℕ, ◌+◌, ◌<◌, ◌≤◌, length}
use Rattle.gh_ast.specs.Questions.{Claim, leaf, denial, every, either, Claims, no_claims, claim_first, Question}
use Rattle.gh_ast.specs.Limits.{atoms, reported, most_variables, most_atoms}
use Rattle.gh_ast.specs.declared.typed.Limit.{Limit}
use Rattle.gh_path.specs.Admitted.{most_terms}
use Rattle.gh_entail.specs.Terms.{question_walked}

-- the atoms of all assertions of a claim
abbrev mutual
  pub claim_atoms : Claim → ℕ
  claim_atoms (leaf f) = atoms f
  claim_atoms (denial c) = claim_atoms c
  claim_atoms (every cs) = claims_atoms cs
  claim_atoms (either cs) = claims_atoms cs

  pub claims_atoms : Claims → ℕ
  claims_atoms no_claims = 0
  claims_atoms (claim_first c cs) = claim_atoms c + claims_atoms cs

abbrev pub count_atoms : Question → ℕ
count_atoms q = claim_atoms q.left + claim_atoms q.right

abbrev pub count_terms : Question → ℕ
count_terms q = length (question_walked q).kinds

-- the variables and the atoms are at most their limits
abbrev pub KeepsTextLimits : Question → Type 0
KeepsTextLimits q = (length q.variables ≤ most_variables) × (count_atoms q ≤ most_atoms)

-- each quantity is at most its limit
pub record KeepsLimits (q : Question) : Type 0 where
  pub text : KeepsTextLimits q
  pub terms : count_terms q ≤ most_terms

-- the limit that is answered: variables before atoms, and atoms before terms, of which no more are counted than one
-- past the limit
pub data IsLimit (q : Question) (l : Limit) : Type 0 where
  of_variables : most_variables < length q.variables
      → l ≡ record { kind = 2; span = q.span; count = reported (length q.variables) } → IsLimit q l
  of_atoms : length q.variables ≤ most_variables → most_atoms < count_atoms q
      → l ≡ record { kind = 3; span = q.span; count = reported (count_atoms q) } → IsLimit q l
  of_terms : KeepsTextLimits q → most_terms < count_terms q
      → l ≡ record { kind = 6; span = q.span; count = most_terms + 1 } → IsLimit q l

-- The type rules of a question. For each rule a relation says at which places it is broken.
use Rattle.std.specs.Prelude.{◌≡◌, ℕ, List, [], ◌++◌, map, Any}
use denote.Ref.{Bor}
use Rattle.gh_base.specs.declared.place.Span.{Span}
use Rattle.gh_ast.specs.declared.Occ.{Occ}
use Rattle.gh_ast.specs.Questions.{Claim, leaf, denial, every, either, Claims, no_claims, claim_first, Question}
use Rattle.gh_ast.specs.Occurrences.{in_assertion}
use Rattle.gh_ast.specs.Rules.{HasName, RepeatedAt, IsFirstError}

-- the occurrences of variables in a claim, from left to right
abbrev mutual
  pub in_claim : Claim → List Occ
  in_claim (leaf f) = in_assertion f
  in_claim (denial c) = in_claim c
  in_claim (every cs) = in_claims cs
  in_claim (either cs) = in_claims cs

  pub in_claims : Claims → List Occ
  in_claims no_claims = []
  in_claims (claim_first c cs) = in_claim c ++ in_claims cs

-- the occurrences os are added last to the borrowed ones
abbrev pub Gathers : List (Bor Occ) → List (Bor Occ) → List Occ → Type 0
Gathers old new os = map (λ o. o.now) new ≡ map (λ o. o.now) old ++ os

-- those of a question: of the left claim, then of the right one
abbrev pub in_question : Question → List Occ
in_question q = in_claim q.left ++ in_claim q.right

-- 1: an occurrence of a variable that the question doesn't declare
abbrev pub UnknownName : Question → Span → Type 0
UnknownName q s = Any (λ o. (o.span ≡ s) × (HasName q.variables o.name → ⊥)) (in_question q)

-- 2: a variable that an earlier one has the name of
abbrev pub DuplicateName : Question → Span → Type 0
DuplicateName q s = RepeatedAt q.variables s

-- the rule with this number is broken at this place
pub data Broken (q : Question) (number : ℕ) (s : Span) : Type 0 where
  unknown_name : number ≡ 1 → UnknownName q s → Broken q number s
  duplicate_name : number ≡ 2 → DuplicateName q s → Broken q number s

-- no rule is broken anywhere
abbrev pub IsTyped : Question → Type 0
IsTyped q = (number : ℕ) (s : Span) → Broken q number s → ⊥

-- the first of all errors of a question: by place, and at one place by number
abbrev pub IsFirstBroken : Question → ℕ → Span → Type 0
IsFirstBroken q number s = IsFirstError (Broken q) number s

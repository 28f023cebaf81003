-- All clauses are true where the clauses of each term are, and the last one.
use Rattle.std.proofs.Common.{ℕ, ◌<◌, [], ◌∷◌, ◌++◌, All}
use Rattle.std.proofs.lemmas.List.Elements.{All-nil, All-cons, All-head, All-append}
use Rattle.gh_base.specs.Meaning.{Interpretation, IsClauseTrue}
use Rattle.gh_small.specs.Fewer.{each, leader_clause, counter_clauses, last_clause, all_leaders, all_counters, fewer}
use Rattle.gh_small.proofs.EachLemmas.{all_left, all_right, all_each, each_all}

pub record AreParts (m : Interpretation) (n d k : ℕ) : Type 0 where
  pub leaders : (t : ℕ) → t < n → IsClauseTrue m (leader_clause d t)
  pub counters : (t j : ℕ) → t < n → j < k → All (IsClauseTrue m) (counter_clauses n d k t j)
  pub last : IsClauseTrue m (last_clause n d k)

pub parts_of : (m : Interpretation) (n d k : ℕ) → All (IsClauseTrue m) (fewer n d k) → AreParts m n d k
parts_of m n d k h =
    let P = IsClauseTrue m in
    let front = all_left P (all_leaders n d ++ all_counters n d k) (last_clause n d k ∷ []) h in
    record {
      leaders =
          λ t lt. All-head P (leader_clause d t) []
          (all_each P n (λ t. leader_clause d t ∷ []) (all_left P (all_leaders n d) (all_counters n d k) front) t lt);
      counters =
          λ t j lt le. all_each P k (counter_clauses n d k t)
          (all_each P n (λ t. each k (counter_clauses n d k t))
          (all_right P (all_leaders n d) (all_counters n d k) front) t lt) j le;
      last = All-head P (last_clause n d k) []
          (all_right P (all_leaders n d ++ all_counters n d k) (last_clause n d k ∷ []) h);
    }

pub whole_of : (m : Interpretation) (n d k : ℕ) → AreParts m n d k → All (IsClauseTrue m) (fewer n d k)
whole_of m n d k h =
    let P = IsClauseTrue m in
    All-append P (all_leaders n d ++ all_counters n d k) (last_clause n d k ∷ [])
    (All-append P (all_leaders n d) (all_counters n d k)
    (each_all P n (λ t. leader_clause d t ∷ [])
    (λ t lt. All-cons P (leader_clause d t) [] (h.leaders t lt) (All-nil P)))
    (each_all P n (λ t. each k (counter_clauses n d k t))
    (λ t lt. each_all P k (counter_clauses n d k t) (λ j le. h.counters t j lt le))))
    (All-cons P (last_clause n d k) [] h.last (All-nil P))

-- Numbers of new definitions are in range.
use Rattle.std.proofs.Common.{◌≡◌, ℕ, suc, ◌+◌, ◌-◌, ◌*◌, ◌<◌, ◌≤◌, ◌∷◌, [], ap, ◌∙◌, sym, arith}
use Rattle.std.proofs.lemmas.Nat.{mul-add-lt}
use Rattle.gh_small.specs.Fewer.{begins, raises, keeps, counter_clauses}

pub counter_below : (d n k t j : ℕ) → t < n → j < k → d + n + t * k + j < d + n + n * k
counter_below d n k t j lt le = omega (arith, mul-add-lt t k j n lt le)

pub leader_below : (d n k t : ℕ) → t < n → d + t < d + n + n * k
leader_below d n k t lt = omega arith

-- the clauses of a counter at a later term
pub at_begin : (n d k t : ℕ) → 1 ≤ t → counter_clauses n d k t 0 ≡ begins n d k t ∷ keeps n d k (t - 1) 0 ∷ []
at_begin n d k t h = let e : t ≡ suc (t - 1) = omega arith in
    ap (λ u. counter_clauses n d k u 0) e ∙ ap (λ u. begins n d k u ∷ keeps n d k (t - 1) 0 ∷ []) (sym e)

pub at_later : (n d k t j : ℕ) → 1 ≤ t → 1 ≤ j
    → counter_clauses n d k t j ≡ raises n d k (t - 1) (j - 1) ∷ keeps n d k (t - 1) j ∷ []
at_later n d k t j h g = let e : t ≡ suc (t - 1) = omega arith in let f : j ≡ suc (j - 1) = omega arith in
    ap (λ u. counter_clauses n d k u j) e ∙ ap (counter_clauses n d k (suc (t - 1))) f
    ∙ ap (λ i. raises n d k (t - 1) (j - 1) ∷ keeps n d k (t - 1) i ∷ []) (sym f)

pub at_nothing : (n d k j : ℕ) → 1 ≤ j → counter_clauses n d k 0 j ≡ []
at_nothing n d k j g = let f : j ≡ suc (j - 1) = omega arith in ap (counter_clauses n d k 0) f

-- How many clauses there are.
use Rattle.std.proofs.Common.{◌≡◌, ℕ, zero, suc, ◌+◌, ◌-◌, ◌*◌, ◌≤◌, [], ◌∷◌, ◌++◌, length, refl, ap, arith}
use Rattle.std.proofs.Common.{length-append}
use Rattle.gh_small.specs.Fewer.{each, leader_clause, counter_clauses, counter_row, last_clause, all_leaders}
use Rattle.gh_small.specs.Fewer.{all_counters}
use Rattle.gh_small.specs.Laws.{FewerIsCounted}

leaders_long : (n d : ℕ) → length (all_leaders n d) ≡ n
leaders_long zero d = refl
leaders_long (suc n) d = omega (arith, length-append (all_leaders n d) (leader_clause d n ∷ []), leaders_long n d)

-- the first term's counters have one clause, each other term's two
first_row : (n d k j : ℕ) → length (each (suc j) (counter_clauses n d k 0)) ≡ 1
first_row n d k zero = refl
first_row n d k (suc j) = omega (arith, length-append (each (suc j) (counter_clauses n d k 0)) [], first_row n d k j)

later_clauses : (n d k t j : ℕ) → length (counter_clauses n d k (suc t) j) ≡ 2
later_clauses n d k t zero = refl
later_clauses n d k t (suc j) = refl

later_row : (n d k t j : ℕ) → length (each j (counter_clauses n d k (suc t))) ≡ 2 * j
later_row n d k t zero = refl
later_row n d k t (suc j) =
    omega (
      arith,
      length-append (each j (counter_clauses n d k (suc t))) (counter_clauses n d k (suc t) j),
      later_clauses n d k t j,
      later_row n d k t j,
    )

rows : (n d k t : ℕ) → 1 ≤ k → length (each (suc t) (counter_row n d k)) ≡ 1 + t * (2 * k)
rows n d k zero some = let e : suc (k - 1) ≡ k = omega arith in
    omega (arith, first_row n d k (k - 1), ap (λ i. length (each i (counter_clauses n d k 0))) e)
rows n d k (suc t) some =
    omega (
      arith,
      length-append (each (suc t) (counter_row n d k)) (counter_row n d k (suc t)),
      rows n d k t some,
      later_row n d k t k,
    )

pub many : FewerIsCounted
many n d k one some =
    let e : suc (n - 1) ≡ n = omega arith in
    omega (
      arith,
      length-append (all_leaders n d ++ all_counters n d k) (last_clause n d k ∷ []),
      length-append (all_leaders n d) (all_counters n d k),
      leaders_long n d,
      rows n d k (n - 1) some,
      ap (λ i. length (each i (counter_row n d k))) e,
    )

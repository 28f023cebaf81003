-- Numbers in words, of which those above a limit aren't taken.
use Rattle.std.proofs.Common.{◌≡◌, ◌<◌, ◌≤◌, ℕ, List, Some, sym, subst, ◌∙◌, arith}
use Rattle.std.specs.Fmt.{decimal}
use Rattle.std.proofs.lemmas.Fmt.{decimal_injective}

pub not_within : (limit m n : ℕ) (word : List ℕ) → m ≤ 4294967295 → limit < m → word ≡ decimal m → n ≤ 4294967295
    → n ≤ limit → word ≡ decimal n → ⊥
not_within limit m n word small above is high within e =
    let same = decimal_injective m n (omega (arith, small)) (omega (arith, high)) (sym is ∙ e) in
    omega (arith, same, above, within)

some_number : (n m : ℕ) → Some n ≡ Some m → n ≡ m
some_number n m e = cc

pub within_limit : (limit m n : ℕ) (word : List ℕ) → 1 ≤ m → m ≤ limit → word ≡ decimal m → Some m ≡ Some n
    → (1 ≤ n) × (n ≤ limit) × (word ≡ decimal n)
within_limit limit m n word low high is e =
    subst (λ k. (1 ≤ k) × (k ≤ limit) × (word ≡ decimal k)) (some_number m n e) (low, high, is)

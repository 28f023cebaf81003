-- Counting the values of a list that pass a test.
use Rattle.std.specs.Prelude.{◌≡◌, ℕ, ◌+◌, ◌≤◌, ◌<◌, List, [], ◌∷◌, Bool, true, false, cond, Contains}
use Rattle.std.proofs.Common.{refl, ◌∙◌, ap, inl, inr, arith}
use Rattle.gh_assert.proofs.Owned.{later_one, first_or_later}

abbrev pub count : (ℕ → Bool) → List ℕ → ℕ
count p [] = 0
count p (v ∷ vs) = cond (p v) 1 0 + count p vs

one_at_most : (a b : Bool) → (a ≡ true → b ≡ true) → cond a 1 0 ≤ cond b 1 0
one_at_most false b e = omega arith
one_at_most true b e = rw (e refl) (omega arith)

one_more : (a b : Bool) → a ≡ false → b ≡ true → cond a 1 0 < cond b 1 0
one_more a b e g = rw e (rw g (omega arith))

pub count_le : (p q : ℕ → Bool) (vs : List ℕ) → ((y : ℕ) → Contains vs y → p y ≡ true → q y ≡ true)
    → count p vs ≤ count q vs
count_le p q [] e = omega arith
count_le p q (v ∷ vs) e =
    omega (
      arith,
      one_at_most (p v) (q v) (e v (0, omega arith, refl)),
      count_le p q vs (λ y c. e y (later_one v y vs c)),
    )

-- a test that lets fewer values pass has a smaller count
pub count_lt : (p q : ℕ → Bool) (vs : List ℕ) → ((y : ℕ) → Contains vs y → p y ≡ true → q y ≡ true) → (x : ℕ)
    → Contains vs x → p x ≡ false → q x ≡ true → count p vs < count q vs
count_lt p q [] e x c out here = absurd (omega (arith, c.1))
count_lt p q (v ∷ vs) e x c out here = elim (first_or_later v x vs c) [
  | inl same ↦ omega (
    arith,
    one_more (p v) (q v) (ap p same ∙ out) (ap q same ∙ here),
    count_le p q vs (λ y d. e y (later_one v y vs d)),
  )
  | inr later ↦ omega (
    arith,
    one_at_most (p v) (q v) (e v (0, omega arith, refl)),
    count_lt p q vs (λ y d. e y (later_one v y vs d)) x later out here,
  )
]

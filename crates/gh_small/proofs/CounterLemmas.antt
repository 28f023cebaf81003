-- The counter over any truths: L of a term, and S of a term and a number from 0 on, "more than j up to t".
use Rattle.std.proofs.Common.{◌≡◌, ◌↔◌, inl, inr, ℕ, zero, suc, ◌+◌, ◌<◌, ◌≤◌, Bool, true, false, refl, ap, arith}
use Rattle.std.proofs.lemmas.Bool.{cases_Bool}
use Rattle.gh_small.specs.Leaders.{one_if, counted}

pub one_more : (p : ℕ → Bool) (t : ℕ) → p t ≡ true → counted p (suc t) ≡ counted p t + 1
one_more p t h = ap (λ b. counted p t + one_if b) h

pub none_more : (p : ℕ → Bool) (t : ℕ) → p t ≡ false → counted p (suc t) ≡ counted p t
none_more p t h = let e : counted p (suc t) ≡ counted p t + 0 = ap (λ b. counted p t + one_if b) h in omega arith

-- the steps that the clauses make
pub record IsStepped (n k : ℕ) (L : ℕ → Bool) (S : ℕ → ℕ → Bool) : Type 0 where
  pub begun : (t : ℕ) → t < n → 0 < k → L t ≡ true → S t 0 ≡ true
  pub raised : (t j : ℕ) → suc t < n → suc j < k → L (suc t) ≡ true → S t j ≡ true → S (suc t) (suc j) ≡ true
  pub kept : (t j : ℕ) → suc t < n → j < k → S t j ≡ true → S (suc t) j ≡ true

module _ (n k : ℕ) (L : ℕ → Bool) (S : ℕ → ℕ → Bool) (h : IsStepped n k L S) where
  -- what is counted is told
  pub told : (t j : ℕ) → t < n → j < k → j < counted L (suc t) → S t j ≡ true
  told zero j lt le more = elim (cases_Bool (L 0)) as (λ _. S 0 j ≡ true) [
    | inl on ↦ first j (omega (arith, one_more L 0 on)) on le
    | inr off ↦ absurd (omega (arith, none_more L 0 off))
  ]
    where
      first : (i : ℕ) → i < 1 → L 0 ≡ true → i < k → S 0 i ≡ true
      first zero low on le = h.begun 0 lt le on
      first (suc i) low on le = absurd (omega arith)
  told (suc t) zero lt le more = elim (cases_Bool (L (suc t))) as (λ _. S (suc t) 0 ≡ true) [
    | inl on ↦ h.begun (suc t) lt le on
    | inr off ↦ h.kept t 0 lt le (told t 0 (omega arith) le (omega (arith, none_more L (suc t) off)))
  ]
  told (suc t) (suc j) lt le more = elim (cases_Bool (L (suc t))) as (λ _. S (suc t) (suc j) ≡ true) [
    | inl on ↦ h.raised t j lt le on (told t j (omega arith) (omega arith) (omega (arith, one_more L (suc t) on)))
    | inr off ↦ h.kept t (suc j) lt le (told t (suc j) (omega arith) le (omega (arith, none_more L (suc t) off)))
  ]

-- and what tells the count makes the steps
module _ (n k : ℕ) (L : ℕ → Bool) (S : ℕ → ℕ → Bool)
    (is : (t j : ℕ) → j < k → (S t j ≡ true) ↔ (j < counted L (suc t))) where
  pub stepped : IsStepped n k L S
  stepped = record {
    begun = λ t lt le on. (is t 0 le).1 (omega (arith, one_more L t on));
    raised =
        λ t j lt le on was. (is (suc t) (suc j) le).1
        (let low = (is t j (omega arith)).0 was in omega (arith, one_more L (suc t) on));
    kept = λ t j lt le was. (is (suc t) j le).1 (let low = (is t j le).0 was in omega arith);
  }

-- fewer of them where one implies the other
pub counted_within : (p q : ℕ → Bool) (n : ℕ) → ((t : ℕ) → t < n → p t ≡ true → q t ≡ true) → counted p n ≤ counted q n
counted_within p q zero h = omega arith
counted_within p q (suc n) h =
    let before = counted_within p q n (λ t lt. h t (omega arith)) in
    elim (cases_Bool (p n)) as (λ _. counted p (suc n) ≤ counted q (suc n)) [
      | inl on ↦ omega (arith, one_more p n on, one_more q n (h n (omega arith) on))
      | inr off ↦ omega (arith, none_more p n off)
    ]

pub counted_same : (p q : ℕ → Bool) (n : ℕ) → ((t : ℕ) → t < n → p t ≡ q t) → counted p n ≡ counted q n
counted_same p q zero h = refl
counted_same p q (suc n) h = let before = counted_same p q n (λ t lt. h t (omega arith)) in
    omega (arith, ap one_if (h n (omega arith)))

-- Steps of a function, and distances.
use Rattle.std.specs.Prelude.{◌≡◌, ◌≢◌, ℕ, zero, suc, ◌+◌, ◌-◌, ◌≤◌, ◌<◌}
use Rattle.std.proofs.lemmas.Bool.{cases_eq, cases_lt}
use Rattle.std.proofs.Common.{refl, sym, ◌∙◌, ap, inl, inr, arith}
use Rattle.gh_assert.specs.Walks.{steps, IsDistance}

pub steps_add : (f : ℕ → ℕ) (k m n x : ℕ) → k ≡ m + n → steps f k x ≡ steps f n (steps f m x)
steps_add f k zero n x e = let same : k ≡ n = omega arith in ap (λ i. steps f i x) same
steps_add f zero (suc m) n x e = absurd (omega arith)
steps_add f (suc k) (suc m) n x e = steps_add f k m n (f x) (omega arith)

pub steps_suc : (f : ℕ → ℕ) (n x : ℕ) → steps f (suc n) x ≡ f (steps f n x)
steps_suc f n x = steps_add f (suc n) n 1 x (omega arith)

-- a fixed place stays
pub steps_fixed : (f : ℕ → ℕ) (n x : ℕ) → f x ≡ x → steps f n x ≡ x
steps_fixed f zero x e = refl
steps_fixed f (suc n) x e = ap (steps f n) e ∙ steps_fixed f n x e

pub distance_zero : (f : ℕ → ℕ) (x y : ℕ) → x ≡ y → IsDistance f x y 0
distance_zero f x y e = record { arrives = e; before = λ k l. absurd (omega arith) }

pub distance_suc : (f : ℕ → ℕ) (x y n : ℕ) → x ≢ y → IsDistance f (f x) y n → IsDistance f x y (suc n)
distance_suc f x y n other d = record { arrives = d.arrives; before = sooner }
  where
    sooner : (k : ℕ) → k < suc n → steps f k x ≢ y
    sooner zero l = other
    sooner (suc k) l = d.before k (omega arith)

-- what is reached has a distance
pub distance_from : (f : ℕ → ℕ) (n x y : ℕ) → steps f n x ≡ y → (m : ℕ) × IsDistance f x y m
distance_from f zero x y e = (0, distance_zero f x y e)
distance_from f (suc n) x y e = elim (cases_eq x y) [
  | inl same ↦ (0, distance_zero f x y same)
  | inr other ↦ let further = distance_from f n (f x) y e in
      (suc further.0, distance_suc f x y further.0 other further.1)
]

pub distance_least : {f : ℕ → ℕ} {x y n : ℕ} → IsDistance f x y n → (m : ℕ) → steps f m x ≡ y → n ≤ m
distance_least {n = n} d m e = elim (cases_lt m n) [ inl l ↦ absurd (d.before m l e) | inr h ↦ h ]

pub distance_unique : {f : ℕ → ℕ} {x y m n : ℕ} → IsDistance f x y m → IsDistance f x y n → m ≡ n
distance_unique {m = m} {n = n} d e = omega (arith, distance_least d n e.arrives, distance_least e m d.arrives)

pub triangle : {f : ℕ → ℕ} {x y z m n k : ℕ} → IsDistance f x y m → IsDistance f y z n → IsDistance f x z k → k ≤ m + n
triangle {f = f} {x = x} {m = m} {n = n} d e g =
    distance_least g (m + n) (steps_add f (m + n) m n x refl ∙ ap (steps f n) d.arrives ∙ e.arrives)

-- before the end of a walk no value is met twice
pub distinct : {f : ℕ → ℕ} {x z j : ℕ} → IsDistance f x z j → (i k r : ℕ) → i < k → k + r ≡ j
    → steps f i x ≢ steps f k x
distinct {f = f} {x = x} {j = j} d i k r l e same =
    d.before (i + r) (omega arith)
    (steps_add f (i + r) i r x refl ∙ ap (steps f r) same ∙ sym (steps_add f j k r x (sym e)) ∙ d.arrives)

pub distance_front : {f : ℕ → ℕ} {x z j : ℕ} → IsDistance f x z j → (i r : ℕ) → i + r ≡ j
    → IsDistance f x (steps f i x) i
distance_front d i r e = record { arrives = refl; before = λ k l. distinct d k i r l e }

pub distance_rest : {f : ℕ → ℕ} {x z j : ℕ} → IsDistance f x z j → (i r : ℕ) → i + r ≡ j
    → IsDistance f (steps f i x) z r
distance_rest {f = f} {x = x} {j = j} d i r e = record {
  arrives = sym (steps_add f j i r x (sym e)) ∙ d.arrives;
  before = λ k l same. d.before (i + k) (omega arith) (steps_add f (i + k) i k x refl ∙ same);
}

-- what comes before the end isn't fixed
pub moves : {f : ℕ → ℕ} {x z j : ℕ} → IsDistance f x z j → (i : ℕ) → i < j → f (steps f i x) ≢ steps f i x
moves {f = f} {x = x} {j = j} d i l same =
    d.before i l (sym (steps_fixed f (j - i) (steps f i x) same) ∙ sym (steps_add f j i (j - i) x (omega arith))
    ∙ d.arrives)

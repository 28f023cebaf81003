-- What holds of all or of some members of lists that are joined.
use Rattle.std.proofs.Common.{◌⊎◌, inl, inr, ℕ, zero, suc, ◌<◌, List, [], ◌∷◌, ◌++◌, All, refl, sym, subst, arith}
use Rattle.std.specs.Prelude.{Any}
use Rattle.std.proofs.lemmas.Bool.{cases_eq}
use Rattle.std.proofs.lemmas.List.Elements.{All-nil, All-cons, All-head, All-tail, All-append}
use Rattle.gh_small.specs.Fewer.{each}

module _ {A : Type 0} (P : A → Type 0) where
  pub all_left : (xs ys : List A) → All P (xs ++ ys) → All P xs
  all_left [] ys h = All-nil P
  all_left (x ∷ xs) ys h = All-cons P x xs (All-head P x (xs ++ ys) h) (all_left xs ys (All-tail P x (xs ++ ys) h))

  pub all_right : (xs ys : List A) → All P (xs ++ ys) → All P ys
  all_right [] ys h = h
  all_right (x ∷ xs) ys h = all_right xs ys (All-tail P x (xs ++ ys) h)

  pub pair_all : (x y : A) → P x → P y → All P (x ∷ y ∷ [])
  pair_all x y holds other = All-cons P x (y ∷ []) holds (All-cons P y [] other (All-nil P))

  pub pair_first : (x y : A) → All P (x ∷ y ∷ []) → P x
  pair_first x y h = All-head P x (y ∷ []) h

  pub pair_second : (x y : A) → All P (x ∷ y ∷ []) → P y
  pair_second x y h = All-head P y [] (All-tail P x (y ∷ []) h)

  pub any_here : (x : A) (xs : List A) → P x → Any P (x ∷ xs)
  any_here x xs h = (0, x, omega arith, refl, h)

  pub any_later : (x : A) (xs : List A) → Any P xs → Any P (x ∷ xs)
  any_later x xs w = (suc w.0, w.1, omega arith, w.3, w.4)

  pub any_cases : (x : A) (xs : List A) → Any P (x ∷ xs) → P x ⊎ Any P xs
  any_cases x xs (zero, y, h, e, holds) = inl (subst P (sym e) holds)
  any_cases x xs (suc k, y, h, e, holds) = inr (k, y, omega arith, e, holds)

  pub any_none : {X : Type 0} → Any P [] → X
  any_none w = absurd (omega (arith, w.2))

  pub any_left : (xs ys : List A) → Any P xs → Any P (xs ++ ys)
  any_left [] ys w = any_none w
  any_left (x ∷ xs) ys w =
      elim (any_cases x xs w) as (λ _. Any P (x ∷ xs ++ ys))
      [ inl holds ↦ any_here x (xs ++ ys) holds | inr v ↦ any_later x (xs ++ ys) (any_left xs ys v) ]

  pub any_right : (xs ys : List A) → Any P ys → Any P (xs ++ ys)
  any_right [] ys w = w
  any_right (x ∷ xs) ys w = any_later x (xs ++ ys) (any_right xs ys w)

  pub any_append : (xs ys : List A) → Any P (xs ++ ys) → Any P xs ⊎ Any P ys
  any_append [] ys w = inr w
  any_append (x ∷ xs) ys w = elim (any_cases x (xs ++ ys) w) as (λ _. Any P (x ∷ xs) ⊎ Any P ys) [
    | inl holds ↦ inl (any_here x xs holds)
    | inr v ↦ elim (any_append xs ys v) as (λ _. Any P (x ∷ xs) ⊎ Any P ys)
        [ inl u ↦ inl (any_later x xs u) | inr u ↦ inr u ]
  ]

  -- every list has only such members
  pub each_all : (n : ℕ) (f : ℕ → List A) → ((t : ℕ) → t < n → All P (f t)) → All P (each n f)
  each_all zero f h = All-nil P
  each_all (suc n) f h = All-append P (each n f) (f n) (each_all n f (λ t lt. h t (omega arith))) (h n (omega arith))

  pub all_each : (n : ℕ) (f : ℕ → List A) → All P (each n f) → (t : ℕ) → t < n → All P (f t)
  all_each zero f h t lt = absurd (omega arith)
  all_each (suc n) f h t lt = elim (cases_eq t n) as (λ _. All P (f t)) [
    | inl e ↦ subst (λ (u : ℕ). All P (f u)) (sym e) (all_right (each n f) (f n) h)
    | inr ne ↦ all_each n f (all_left (each n f) (f n) h) t (omega arith)
  ]

  pub any_each : (n : ℕ) (f : ℕ → List A) → Any P (each n f) → (t : ℕ) × (t < n) × Any P (f t)
  any_each zero f w = any_none w
  any_each (suc n) f w = elim (any_append (each n f) (f n) w) as (λ _. (t : ℕ) × (t < suc n) × Any P (f t)) [
    | inl v ↦ let u = any_each n f v in (u.0, omega (arith, u.1), u.2)
    | inr v ↦ (n, omega arith, v)
  ]

  pub each_any : (n : ℕ) (f : ℕ → List A) (t : ℕ) → t < n → Any P (f t) → Any P (each n f)
  each_any zero f t lt w = absurd (omega arith)
  each_any (suc n) f t lt w = elim (cases_eq t n) as (λ _. Any P (each (suc n) f)) [
    | inl e ↦ any_right (each n f) (f n) (subst (λ (u : ℕ). Any P (f u)) e w)
    | inr ne ↦ any_left (each n f) (f n) (each_any n f t (omega arith) w)
  ]

-- Members of lists by place.
use Rattle.std.specs.Prelude.{◌≡◌, ℕ, zero, suc, ◌+◌, ◌<◌, List, [], ◌∷◌, ◌++◌, length, map, Bool, ◌||◌, Some, None}
use Rattle.std.specs.Prelude.{slice_get, get_or, drop, Contains}
use Rattle.std.specs.List.{list_any}
use Rattle.std.proofs.Common.{refl, sym, ◌∙◌, ap, subst, arith}
use Rattle.std.proofs.lemmas.List.{drop_more}
use Rattle.std.proofs.lemmas.Option.{slice_get_within, get_or_from_slice_get}

pub same_some : {A : Type 0} (x y : A) → Some x ≡ Some y → x ≡ y
same_some x y e = cc

pub no_some : {A : Type 0} (y : A) → None ≡ Some y → ⊥
no_some y e = absurd cc

pub got_left : {A : Type 0} (xs ys : List A) (n : ℕ) (y : A) → n < length xs → slice_get (xs ++ ys) n ≡ Some y
    → slice_get xs n ≡ Some y
got_left [] ys n y within e = absurd (omega (arith, within))
got_left (x ∷ xs) ys zero y within e = e
got_left (x ∷ xs) ys (suc n) y within e = got_left xs ys n y (omega (arith, within)) e

pub got_right : {A : Type 0} (xs ys : List A) (m : ℕ) (y : A) → slice_get (xs ++ ys) (length xs + m) ≡ Some y
    → slice_get ys m ≡ Some y
got_right [] ys m y e = let same : 0 + m ≡ m = omega arith in subst (λ n. slice_get ys n ≡ Some y) same e
got_right (x ∷ xs) ys m y e =
    let same : length (x ∷ xs) + m ≡ suc (length xs + m) = omega arith in
    got_right xs ys m y (subst (λ n. slice_get (x ∷ xs ++ ys) n ≡ Some y) same e)

pub got_front : {A : Type 0} (xs ys : List A) (j : ℕ) (x : A) → slice_get xs j ≡ Some x
    → slice_get (xs ++ ys) j ≡ Some x
got_front [] ys j x e = absurd cc
got_front (y ∷ xs) ys zero x e = e
got_front (y ∷ xs) ys (suc j) x e = got_front xs ys j x e

pub got_back : {A : Type 0} (xs ys : List A) (j : ℕ) (x : A) → slice_get ys j ≡ Some x
    → slice_get (xs ++ ys) (length xs + j) ≡ Some x
got_back [] ys j x e = let same : j ≡ 0 + j = omega arith in subst (λ n. slice_get ys n ≡ Some x) same e
got_back (y ∷ xs) ys j x e =
    let same : suc (length xs + j) ≡ length (y ∷ xs) + j = omega arith in
    subst (λ n. slice_get (y ∷ xs ++ ys) n ≡ Some x) same (got_back xs ys j x e)

-- what is left of a list begins with the next member
pub next : {A : Type 0} (xs : List A) (i : ℕ) (x : A) → i < length xs → x ≡ get_or xs i x
    → drop i xs ≡ x ∷ drop (i + 1) xs
next xs i x within is = drop_more xs i x within ∙ ap (λ y. y ∷ drop (i + 1) xs) (sym is)

-- a place within a list has a member
pub got : {A : Type 0} (xs : List A) (n : ℕ) → n < length xs → (x : A) × (slice_get xs n ≡ Some x)
got [] n less = absurd (omega (arith, less))
got (x ∷ xs) zero less = (x, refl)
got (x ∷ xs) (suc n) less = got xs n (omega (arith, less))

pub any_map : {A B : Type 0} (p : B → Bool) (f : A → B) (xs : List A)
    → list_any p (map f xs) ≡ list_any (λ x. p (f x)) xs
any_map p f [] = refl
any_map p f (x ∷ xs) = ap (λ b. p (f x) || b) (any_map p f xs)

-- what stands at a place is a member
pub member : {A : Type 0} (xs : List A) (i : ℕ) (x : A) → slice_get xs i ≡ Some x → Contains xs x
member xs i x at = (i, slice_get_within xs i x at, get_or_from_slice_get xs i x x at)

-- the first of what is left of a list, and the others
pub first_of : {A : Type 0} (xs : List A) (k : ℕ) (x : A) (ys : List A) → drop k xs ≡ x ∷ ys → slice_get xs k ≡ Some x
first_of [] zero x ys e = absurd cc
first_of [] (suc k) x ys e = absurd cc
first_of (z ∷ xs) zero x ys e = let same : z ≡ x = cc in ap Some same
first_of (z ∷ xs) (suc k) x ys e = first_of xs k x ys e

pub rest_of : {A : Type 0} (xs : List A) (k : ℕ) (x : A) (ys : List A) → drop k xs ≡ x ∷ ys → ys ≡ drop (suc k) xs
rest_of [] zero x ys e = absurd cc
rest_of [] (suc k) x ys e = absurd cc
rest_of (z ∷ xs) zero x ys e = let same : xs ≡ ys = cc in sym same
rest_of (z ∷ xs) (suc k) x ys e = rest_of xs k x ys e

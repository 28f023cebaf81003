-- Digits and line feeds at the front of a text.
use Rattle.std.specs.Prelude.{◌≡◌, ◌⊎◌, ℕ, zero, suc, ◌+◌, ◌-◌, ◌<◌, ◌≤◌, ◌^◌, List, [], ◌∷◌, ◌++◌, length, get_or}
use Rattle.std.specs.Prelude.{take, drop, true, false, Bool, ◌&&◌, Contains}
use Rattle.std.specs.Int.{IsInRange}
use Rattle.std.specs.Char.{is_ascii_digit}
use Rattle.std.specs.Fmt.{decimal}
use Rattle.std.specs.Str.{all_ascii_digits, IsUtf8}
use Rattle.std.specs.Str.Parse.{digits_value, ParsesUnsigned}
use Rattle.std.proofs.Common.{refl, sym, ◌∙◌, ap, subst, inl, inr, arith, add-one, Err}
use Rattle.std.proofs.lemmas.Str.Parse.{parse_digits}
use Rattle.std.proofs.lemmas.List.{append_assoc, take_all, length-drop, take-append-drop}
use Rattle.std.proofs.lemmas.Fmt.{decimal_digit, decimal_nonempty, first_decimal, digits_value-decimal}
use Rattle.std.proofs.lemmas.Fmt.{decimal-digits_value, IsAscii-from_digits}
use Rattle.std.proofs.lemmas.Str.{IsUtf8-from_ascii}
use Rattle.gh_draw.specs.Drawn.{IsValue}
use Rattle.gh_draw.specs.Reading.{NoDigitFirst, IsSplitAt, IsValueOf, HasLeadingZero, ShowsNumber, IsLineEnd, IsLine}
use Rattle.gh_draw.proofs.Fronts.{own_digits, each_digit, decimal_digits, span_one, wide}

first_true : (a b : Bool) → (a && b) ≡ true → a ≡ true
first_true true b e = refl
first_true false b e = absurd cc

second_true : (a b : Bool) → (a && b) ≡ true → b ≡ true
second_true true b e = e
second_true false b e = absurd cc

both_true : (a b : Bool) → a ≡ true → b ≡ true → (a && b) ≡ true
both_true a b p q = rw (p, q) refl

digits_next : (t : List ℕ) (i : ℕ) → i < length t → all_ascii_digits (take i t) ≡ true
    → is_ascii_digit (get_or t i 0) ≡ true → all_ascii_digits (take (suc i) t) ≡ true
digits_next [] i l h d = absurd (omega (arith, l))
digits_next (c ∷ cs) zero l h d = both_true (is_ascii_digit c) true d refl
digits_next (c ∷ cs) (suc i) l h d =
    both_true (is_ascii_digit c) (all_ascii_digits (take (suc i) cs))
    (first_true (is_ascii_digit c) (all_ascii_digits (take i cs)) h)
    (digits_next cs i (omega (arith, l)) (second_true (is_ascii_digit c) (all_ascii_digits (take i cs)) h) d)

pub digits_more : (t : List ℕ) (i : ℕ) → i < length t → all_ascii_digits (take i t) ≡ true
    → is_ascii_digit (get_or t i 0) ≡ true → all_ascii_digits (take (i + 1) t) ≡ true
digits_more t i l h d = subst (λ n. all_ascii_digits (take n t) ≡ true) (sym (add-one i)) (digits_next t i l h d)

-- decimal has no leading zero
pub no_leading : (ds : List ℕ) (n : ℕ) → IsValue n → ds ≡ decimal n → 1 < length ds → get_or ds 0 0 ≡ 48 → ⊥
no_leading ds zero h e l z =
    let one : length ds ≡ 1 = ap length (e ∙ decimal_digit 0 (omega arith)) in
    absurd (omega (arith, one, l))
no_leading ds (suc m) h e l z =
    let first : 48 < get_or (decimal (suc m)) 0 0 = first_decimal (suc m) (omega arith) (wide (suc m) h) in
    let same : get_or (decimal (suc m)) 0 0 ≡ 48 = ap (λ t. get_or t 0 0) (sym e) ∙ z in
    absurd (omega (arith, first, same))

pub digits_are_text : (ds : List ℕ) → all_ascii_digits ds ≡ true → IsUtf8 ds
digits_are_text ds h = IsUtf8-from_ascii ds (IsAscii-from_digits ds (own_digits.to ds h))

-- digits without a leading zero are the decimal of their value
not_less : (n m : ℕ) → (n < m → ⊥) → m ≤ n
not_less n m h = elim (either n m) [ inl less ↦ absurd (h less) | inr more ↦ more ]
  where
    either : (n m : ℕ) → (n < m) ⊎ (m ≤ n)
    either n m = grind arith

pub parsed_is : (ds : List ℕ) (n : ℕ) → all_ascii_digits ds ≡ true → (HasLeadingZero ds → ⊥) → IsValueOf ds n
    → ds ≡ decimal n
parsed_is ds n h z p =
    let small : digits_value 10 ds < 2 ^ 64 = wide (digits_value 10 ds) (subst IsValue p.value_is p.fits) in
    let some : 0 < length ds = p.some in
    let one : get_or ds 0 0 ≡ 48 → length ds ≡ 1 =
    λ e. let few : length ds ≤ 1 = not_less 1 (length ds) (λ l. z (l, e)) in omega (arith, few, some) in
    sym (ap decimal p.value_is ∙ decimal-digits_value own_digits ds h p.some one small)

pub too_large : {E : Type 0} (ds : List ℕ) (e : E) → all_ascii_digits ds ≡ true → ParsesUnsigned 32 10 ds (Err e)
    → 0 < length ds → 2 ^ 32 ≤ digits_value 10 ds
too_large {E} ds e h p some =
    not_less (digits_value 10 ds) (2 ^ 32) (λ l. parse_digits own_digits 32 ds (Err e) p h (some, l))

pub not_parsed : (ds : List ℕ) → (0 < length ds → 2 ^ 32 ≤ digits_value 10 ds) → (n : ℕ) → IsValue n → ds ≡ decimal n
    → ⊥
not_parsed ds large n h e =
    let some : 0 < length ds = subst (λ t. 0 < length t) (sym e) (decimal_nonempty n (wide n h)) in
    let value : digits_value 10 ds ≡ n = ap (digits_value 10) e ∙ digits_value-decimal own_digits n (wide n h) in
    let high = large some in
    absurd (omega (arith, high, value, h))

-- no number stands first where the digits are none
pub no_number : (t : List ℕ) (k : ℕ) → IsSplitAt t k → ((n : ℕ) → IsValue n → take k t ≡ decimal n → ⊥)
    → (n : ℕ) (rest : List ℕ) → ShowsNumber t n rest → ⊥
no_number t k s none n rest u =
    let whole : take k t ++ drop k t ≡ t = take-append-drop k t in
    let both =
    span_one (IsInRange 48 57) NoDigitFirst (λ c cs h. h) (take k t) (decimal n) (drop k t) rest
    (each_digit (take k t) s.digits) (decimal_digits n u.fits) s.ends u.ends (whole ∙ u.shown) in
    none n u.fits both.0

-- lines

split_at : (t : List ℕ) (n : ℕ) → n < length t → get_or t n 0 ≡ 10 → t ≡ take n t ++ 10 ∷ drop (suc n) t
split_at [] n l h = absurd (omega (arith, l))
split_at (c ∷ cs) zero l h = ap (λ z. z ∷ cs) h
split_at (c ∷ cs) (suc n) l h = ap (λ z. c ∷ z) (split_at cs n (omega (arith, l)) h)

none_before : (t : List ℕ) (n : ℕ) → ((k : ℕ) → k < n → get_or t k 0 ≡ 10 → ⊥) → Contains (take n t) 10 → ⊥
none_before t n before (k, within, is) = at t n k before within is
  where
    at : (t : List ℕ) (n k : ℕ) → ((k : ℕ) → k < n → get_or t k 0 ≡ 10 → ⊥) → k < length (take n t)
        → get_or (take n t) k 10 ≡ 10 → ⊥
    at t zero k before within is = absurd (omega (arith, within))
    at [] (suc n) k before within is = absurd (omega (arith, within))
    at (c ∷ cs) (suc n) zero before within is = before 0 (omega arith) is
    at (c ∷ cs) (suc n) (suc k) before within is =
        at cs n k (λ j l e. before (suc j) (omega (arith, l)) e) (omega (arith, within)) is

pub line_taken : (t left : List ℕ) (n : ℕ) → IsLineEnd t n → left ≡ take (length t - (n + 1)) (drop (n + 1) t)
    → IsLine t left true
line_taken t left n s e =
    let rest : left ≡ drop (suc n) t =
    e ∙ take_all (length t - (n + 1)) (drop (n + 1) t) (omega (arith, length-drop (n + 1) t))
    ∙ ap (λ k. drop k t) (add-one n) in (
      take n t,
      none_before t n s.before,
      split_at t n s.within s.here ∙ ap (λ z. take n t ++ 10 ∷ z) (sym rest)
          ∙ sym (append_assoc (take n t) (10 ∷ []) left),
    )

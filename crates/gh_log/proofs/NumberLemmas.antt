-- Numbers in decimal at the front of a text.
use Rattle.std.proofs.Common.{◌≡◌, ℕ, zero, suc, ◌+◌, ◌-◌, ◌*◌, ◌^◌, ◌<◌, ◌≤◌, List, [], ◌∷◌, ◌++◌, length, take, drop}
use Rattle.std.proofs.Common.{get_or, true, false, IsTrue, All, refl, sym, ◌∙◌, ap, subst, arith, rules, tests}
use Rattle.std.proofs.Common.{append_assoc, length-append, length-drop}
use Rattle.std.specs.Fmt.{decimal}
use Rattle.std.specs.Char.{is_ascii_digit, digit_value}
use Rattle.std.specs.Int.{IsInRange}
use Rattle.std.specs.Str.Parse.{AllDigits, digits_value}
use Rattle.std.proofs.lemmas.Bool.{both_ways}
use Rattle.std.proofs.lemmas.List.{take_more, take-append-drop, get_or_default, length-take-le}
use Rattle.std.proofs.lemmas.List.Elements.{All-head, All-tail, All-weaker, All-append, All-cons}
use Rattle.std.proofs.lemmas.Grind.{flat_map-append}
use Rattle.std.specs.List.{flat_map}
use Rattle.std.proofs.lemmas.Int.Digits.{digits_value_push}
use Rattle.std.proofs.lemmas.Str.{digit_value_digit}
use Rattle.std.proofs.lemmas.Str.Parse.{tells_digits, digit_at, numerals_by_value, digits_value_short}
use Rattle.std.proofs.lemmas.Str.Parse.{digits_value-take-le, IsNumeralModel}
use Rattle.std.proofs.lemmas.Fmt.{digits_decimal, digits_value-decimal, decimal-digits_value, decimal_injective}
use Rattle.std.proofs.lemmas.Fmt.{length-decimal-le, first_decimal, decimal_nonempty, decimal_digit}
use Rattle.gh_log.specs.Reading.{EndsNumber, SpellsNumber, SpellsBytes, SpellsNothing}

own : IsNumeralModel (AllDigits 10) (digits_value 10)
own = numerals_by_value (AllDigits 10) tells_digits

-- digits by their test
abbrev pub AreDigits : List ℕ → Type 0
AreDigits ds = All (λ b. IsTrue (is_ascii_digit b)) ds

in_range : (b : ℕ) → is_ascii_digit b ≡ true → IsInRange 48 57 b
in_range b h = search (rules, tests)

is_digit : (b : ℕ) → IsInRange 48 57 b → is_ascii_digit b ≡ true
is_digit b h = search (rules, tests)

pub digits_by_value : (ds : List ℕ) → AreDigits ds → AllDigits 10 ds
digits_by_value [] h = tells_digits.empty
digits_by_value (b ∷ ds) h =
    tells_digits.more b ds (in_range b (All-head (λ x. IsTrue (is_ascii_digit x)) b ds h))
    (digits_by_value ds (All-tail (λ x. IsTrue (is_ascii_digit x)) b ds h))

-- two readings of the front of a text are one
pub record AreOne {X : Type 0} (x y : X) (left right : List ℕ) : Type 0 where
  pub value : x ≡ y
  pub rest : left ≡ right

pub one_run : (w r v q : List ℕ) → AllDigits 10 w → EndsNumber r → AllDigits 10 v → EndsNumber q → w ++ r ≡ v ++ q
    → AreOne w v r q
one_run [] r [] q a b c d e = record { value = refl; rest = e }
one_run [] r (y ∷ v) q a b c d e =
    absurd (both_ways (is_ascii_digit y) (subst EndsNumber e b) (is_digit y (tells_digits.parts y v c).0))
one_run (x ∷ w) r [] q a b c d e =
    absurd (both_ways (is_ascii_digit x) (subst EndsNumber (sym e) d) (is_digit x (tells_digits.parts x w a).0))
one_run (x ∷ w) r (y ∷ v) q a b c d e =
    let t : w ++ r ≡ v ++ q = cc in
    let one = one_run w r v q (tells_digits.parts x w a).1 b (tells_digits.parts y v c).1 d t in
    let first : x ≡ y = cc in
    let same : w ≡ v = one.value in
    record { value = cc; rest = one.rest }

pub one_number : (m n : ℕ) (r q : List ℕ) → m < 2 ^ 64 → n < 2 ^ 64 → EndsNumber r → EndsNumber q
    → decimal m ++ r ≡ decimal n ++ q → AreOne m n r q
one_number m n r q h k a b e =
    let one = one_run (decimal m) r (decimal n) q (digits_decimal own m h) a (digits_decimal own n k) b e in
    record { value = decimal_injective m n h k one.value; rest = one.rest }

-- ten digits fit
pub few_digits : (ds : List ℕ) (i : ℕ) → AllDigits 10 ds → length ds ≤ 10 → digits_value 10 (take i ds) < 10000000000
few_digits ds i h few =
    let whole : digits_value 10 ds < 10 ^ 10 = digits_value_short own ds 10 h few in
    let part = digits_value-take-le 10 ds i (omega arith) in
    omega (arith, part, whole)

pub one_digit_more : (ds : List ℕ) (i d : ℕ) → AllDigits 10 ds → i < length ds → d ≡ get_or ds i d
    → (digits_value 10 (take (i + 1) ds) ≡ digits_value 10 (take i ds) * 10 + (d - 48)) × IsInRange 48 57 d
one_digit_more ds i d h lt e =
    let here : IsInRange 48 57 d = subst (IsInRange 48 57) (get_or_default ds i 0 d lt ∙ sym e) (digit_at ds i h lt) in
    let value : digit_value d ≡ d - 48 = omega (arith, digit_value_digit d here) in (
      ap (digits_value 10) (take_more ds i d lt ∙ ap (λ x. take i ds ++ x ∷ []) (sym e))
          ∙ digits_value_push 10 (take i ds) d ∙ ap (λ x. digits_value 10 (take i ds) * 10 + x) value,
      here,
    )

-- digits that are too many, or have a zero before others, write no number below 2 ^ 32
pub too_many : (ds : List ℕ) → 10 < length ds → (n : ℕ) → n < 2 ^ 32 → ds ≡ decimal n → ⊥
too_many ds h n k e =
    let short = length-decimal-le 10 n (omega arith) (omega arith) (omega arith) in
    let l = ap length e in
    omega (arith, short, l)

pub none_empty : (ds : List ℕ) → length ds < 1 → (n : ℕ) → n < 2 ^ 32 → ds ≡ decimal n → ⊥
none_empty ds none n k e =
    let some = decimal_nonempty n (omega arith) in
    let l = ap length e in
    omega (arith, some, l)

pub zero_first : (ds : List ℕ) → get_or ds 0 0 ≡ 48 → 1 < length ds → (n : ℕ) → n < 2 ^ 32 → ds ≡ decimal n → ⊥
zero_first ds zero_there some zero k e = let l = ap length (e ∙ decimal_digit 0 (omega arith)) in omega (arith, l)
zero_first ds zero_there some (suc n) k e =
    let high = first_decimal (suc n) (omega arith) (omega (arith, k)) in
    let first = ap (λ x. get_or x 0 0) e in
    omega (arith, high, first)

pub just_zero : (ds : List ℕ) → get_or ds 0 0 ≡ 48 → 1 ≤ length ds → length ds ≤ 1 → ds ≡ decimal 0
just_zero [] z some one = absurd (omega arith)
just_zero (d ∷ []) z some one = ap (λ x. x ∷ []) z ∙ sym (decimal_digit 0 (omega arith))
just_zero (d ∷ c ∷ ds) z some one = absurd (omega arith)

-- the number that some digits write
pub written_is : (ds : List ℕ) → AllDigits 10 ds → (n : ℕ) → n < 2 ^ 32 → ds ≡ decimal n → digits_value 10 ds ≡ n
written_is ds h n k e = ap (digits_value 10) e ∙ digits_value-decimal own n (omega arith)

pub writes_its_value : (ds : List ℕ) → AllDigits 10 ds → 0 < length ds → (get_or ds 0 0 ≡ 48 → length ds ≡ 1)
    → digits_value 10 ds < 2 ^ 32 → ds ≡ decimal (digits_value 10 ds)
writes_its_value ds h some zeros small = sym (decimal-digits_value own ds h some zeros (omega arith))

-- a number is read from its digits
pub no_number : (limit : ℕ) (digits rest text : List ℕ) → limit < 2 ^ 32 → digits ++ rest ≡ text → AllDigits 10 digits
    → EndsNumber rest
    → ((n : ℕ) → n < 2 ^ 32 → digits ≡ decimal n → ⊥) → SpellsNothing (SpellsNumber limit text)
no_number limit digits rest text small e h ends none n r s =
    let one =
    one_run digits rest (decimal n) r h ends (digits_decimal own n (omega (arith, s.within))) s.ends
    (e ∙ s.front) in
    none n (omega (arith, s.within)) one.value

pub too_great : (limit m : ℕ) (digits rest text : List ℕ) → m < 2 ^ 32 → limit < m → digits ≡ decimal m
    → digits ++ rest ≡ text → EndsNumber rest → SpellsNothing (SpellsNumber limit text)
too_great limit m digits rest text small great is e ends n r s =
    let one =
    one_number m n rest r (omega arith) (omega (arith, s.within)) ends s.ends
    (ap (λ d. d ++ rest) (sym is) ∙ e ∙ s.front) in
    omega (arith, one.value, s.within)

-- lists of numbers, each after the same byte
abbrev pub marked : ℕ → List ℕ → List ℕ
marked mark ns = flat_map (λ n. mark ∷ decimal n) ns

abbrev pub AreSmall : List ℕ → Type 0
AreSmall ns = All (λ n. n < 2 ^ 64) ns

pub ends_marked : (mark : ℕ) (ns r : List ℕ) → is_ascii_digit mark ≡ false → EndsNumber r
    → EndsNumber (marked mark ns ++ r)
ends_marked mark [] r m e = e
ends_marked mark (n ∷ ns) r m e = m

pub one_marked : (mark : ℕ) (ns ms r q : List ℕ) → is_ascii_digit mark ≡ false → length ns ≡ length ms → AreSmall ns
    → AreSmall ms → EndsNumber r → EndsNumber q
    → marked mark ns ++ r ≡ marked mark ms ++ q → AreOne ns ms r q
one_marked mark [] [] r q m l a b c d e = record { value = refl; rest = e }
one_marked mark [] (y ∷ ms) r q m l a b c d e = absurd (omega (arith, l))
one_marked mark (x ∷ ns) [] r q m l a b c d e = absurd (omega (arith, l))
one_marked mark (x ∷ ns) (y ∷ ms) r q m l a b c d e =
    let t : (decimal x ++ marked mark ns) ++ r ≡ (decimal y ++ marked mark ms) ++ q = cc in
    let u = sym (append_assoc (decimal x) (marked mark ns) r) ∙ t ∙ append_assoc (decimal y) (marked mark ms) q in
    let one =
    one_number x y (marked mark ns ++ r) (marked mark ms ++ q) (All-head (λ n. n < 2 ^ 64) x ns a)
    (All-head (λ n. n < 2 ^ 64) y ms b) (ends_marked mark ns r m c) (ends_marked mark ms q m d) u in
    let more =
    one_marked mark ns ms r q m (omega (arith, l)) (All-tail (λ n. n < 2 ^ 64) x ns a)
    (All-tail (λ n. n < 2 ^ 64) y ms b) c d one.rest in
    let first : x ≡ y = one.value in
    let others : ns ≡ ms = more.value in
    record { value = cc; rest = more.rest }

pub bytes_small : (ns : List ℕ) → All (λ n. n ≤ 255) ns → AreSmall ns
bytes_small ns h = All-weaker (λ n. n ≤ 255) (λ n. n < 2 ^ 64) (λ n l. omega (arith, l)) ns h

pub one_bytes : (mark i : ℕ) (text ns ms r q : List ℕ) → is_ascii_digit mark ≡ false → SpellsBytes mark i text ns r
    → SpellsBytes mark i text ms q → AreOne ns ms r q
one_bytes mark i text ns ms r q m a b =
    one_marked mark ns ms r q m (a.counted ∙ sym b.counted) (bytes_small ns a.within) (bytes_small ms b.within) a.ends
    b.ends (sym a.front ∙ b.front)

pub all_before : {X : Type 0} (P : X → Type 0) (xs ys : List X) → All P (xs ++ ys) → All P xs
all_before P [] ys h = λ k d l. absurd (omega arith)
all_before P (x ∷ xs) ys h =
    All-cons P x xs (All-head P x (xs ++ ys) h) (all_before P xs ys (All-tail P x (xs ++ ys) h))

pub all_after : {X : Type 0} (P : X → Type 0) (xs ys : List X) → All P (xs ++ ys) → All P ys
all_after P [] ys h = h
all_after P (x ∷ xs) ys h = all_after P xs ys (All-tail P x (xs ++ ys) h)

-- the first numbers, and those after them
pub record IsSplit (mark i j : ℕ) (text ns rest : List ℕ) : Type 0 where
  pub middle : List ℕ
  pub first : SpellsBytes mark i text (take i ns) middle
  pub second : SpellsBytes mark j middle (drop i ns) rest

pub split_bytes : (mark i j : ℕ) (text ns rest : List ℕ) → is_ascii_digit mark ≡ false
    → SpellsBytes mark (i + j) text ns rest → IsSplit mark i j text ns rest
split_bytes mark i j text ns rest m s =
    let joined : take i ns ++ drop i ns ≡ ns = take-append-drop i ns in
    let within : All (λ n. n ≤ 255) (take i ns ++ drop i ns) = subst (All (λ n. n ≤ 255)) (sym joined) s.within in
    let counted = s.counted in
    record {
      middle = marked mark (drop i ns) ++ rest;
      first = record {
        front =
            s.front ∙ ap (λ l. marked mark l ++ rest) (sym joined)
            ∙ ap (λ t. t ++ rest) (flat_map-append (λ n. mark ∷ decimal n) (take i ns) (drop i ns))
            ∙ append_assoc (marked mark (take i ns)) (marked mark (drop i ns)) rest;
        counted = length-take-le i ns (omega (arith, counted));
        within = all_before (λ n. n ≤ 255) (take i ns) (drop i ns) within;
        ends = ends_marked mark (drop i ns) rest m s.ends;
      };
      second = record {
        front = refl;
        counted = omega (arith, length-drop i ns, counted);
        within = all_after (λ n. n ≤ 255) (take i ns) (drop i ns) within;
        ends = s.ends;
      };
    }

pub join_bytes : (mark i j : ℕ) (text ns middle ms rest : List ℕ) → SpellsBytes mark i text ns middle
    → SpellsBytes mark j middle ms rest → SpellsBytes mark (i + j) text (ns ++ ms) rest
join_bytes mark i j text ns middle ms rest a b =
    let l = a.counted in let k = b.counted in
    record {
      front =
          a.front ∙ ap (λ t. marked mark ns ++ t) b.front ∙ sym (append_assoc (marked mark ns) (marked mark ms) rest)
          ∙ ap (λ t. t ++ rest) (sym (flat_map-append (λ n. mark ∷ decimal n) ns ms));
      counted = omega (arith, length-append ns ms, l, k);
      within = All-append (λ n. n ≤ 255) ns ms a.within b.within;
      ends = b.ends;
    }

pub no_first : (mark i j : ℕ) (text : List ℕ) → is_ascii_digit mark ≡ false → SpellsNothing (SpellsBytes mark i text)
    → SpellsNothing (SpellsBytes mark (i + j) text)
no_first mark i j text m h ns rest s = let w = split_bytes mark i j text ns rest m s in h (take i ns) w.middle w.first

pub no_second : (mark i j : ℕ) (text ns middle : List ℕ) → is_ascii_digit mark ≡ false
    → SpellsBytes mark i text ns middle → SpellsNothing (SpellsBytes mark j middle)
    → SpellsNothing (SpellsBytes mark (i + j) text)
no_second mark i j text ns middle m a h ms rest s =
    let w = split_bytes mark i j text ms rest m s in
    let one = one_bytes mark i text ns (take i ms) middle w.middle m a w.first in
    h (drop i ms) rest (subst (λ t. SpellsBytes mark j t (drop i ms) rest) (sym one.rest) w.second)

use Rattle.std.proofs.Common.{◌≡◌, ℕ, ◌<◌, ◌≤◌, length, subst, Some, None, Option, MatchOption, List, true, false, refl}
use Rattle.std.specs.Prelude.{◌^◌}
use Rattle.std.specs.Fmt.{decimal}
use Rattle.std.specs.Str.{all_ascii_digits}
use Rattle.std.specs.Str.Parse.{digits_value}
use Rattle.gh_draw.specs.Drawn.{IsValue}
use Rattle.gh_draw.specs.Reading.{IsValueOf, HasLeadingZero}
use Rattle.gh_draw.proofs.Scans.{no_leading, digits_are_text, parsed_is, not_parsed}
use Rattle.gh_draw.proofs.cursor.value_of.Goals as goal

by_parsed : (ds : List ℕ) (r : Option ℕ) → all_ascii_digits ds ≡ true → (HasLeadingZero ds → ⊥)
    → MatchOption r (0 < length ds → 2 ^ 32 ≤ digits_value 10 ds) (IsValueOf ds)
    → MatchOption r ((n : ℕ) → IsValue n → ds ≡ decimal n → ⊥) (λ n. ds ≡ decimal n)
by_parsed ds None h z p = not_parsed ds p
by_parsed ds (Some n) h z p = parsed_is ds n h z p

pub returns-then-has_leading_zero : goal.returns-then-has_leading_zero
returns-then-has_leading_zero c = λ n h e. let zero = c.if-has_leading_zero.ensures.0 refl in
    no_leading c.args.digits.now n h e zero.0 zero.1

pub returns-in-Ok : goal.returns-in-Ok
returns-in-Ok c =
    by_parsed c.args.digits.now c.parsed.result c.requires
    (λ z. let bad : false ≡ true = c.if-has_leading_zero.ensures.1 z in absurd cc)
    (subst (λ t. MatchOption c.parsed.result (0 < length t → 2 ^ 32 ≤ digits_value 10 t) (IsValueOf t))
    c.in-Ok.ensures.cases.0 c.parsed.ensures)

pub returns-in-Err : goal.returns-in-Err
returns-in-Err c = λ n h e. c.in-Err.ensures.cases.0 (digits_are_text c.args.digits.now c.requires)

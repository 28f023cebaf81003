use Rattle.std.proofs.Common.{◌+◌, ◌≡◌, ◌<◌, ℕ, List, length, get_or, arith}
use Rattle.std.proofs.lemmas.List.{get_or_default}
use Rattle.gh_log.proofs.NumberLemmas.{few_digits, one_digit_more}
use Rattle.gh_log.proofs.cursor.value_of.Goals as goal

same : (ds : List ℕ) (i : ℕ) → i < length ds → get_or ds i 0 ≡ get_or ds i (get_or ds i 0)
same ds i h = get_or_default ds i 0 (get_or ds i 0) h

pub overflow_mul-value : goal.overflow_mul-value
overflow_mul-value c =
    let i = c.loop-digit.digit-index in let ds = c.args.digits.now in
    omega (arith, few_digits ds i c.requires.digits c.requires.few, c.loop-digit.invariant)

pub overflow_sub-digit : goal.overflow_sub-digit
overflow_sub-digit c =
    let i = c.loop-digit.digit-index in let ds = c.args.digits.now in
    (one_digit_more ds i (get_or ds i 0) c.requires.digits c.loop-digit-test.true
    (same ds i c.loop-digit-test.true)).1.0

pub overflow_add-value : goal.overflow_add-value
overflow_add-value c =
    let i = c.loop-digit.digit-index in let ds = c.args.digits.now in
    let more =
    one_digit_more ds i (get_or ds i 0) c.requires.digits c.loop-digit-test.true
    (same ds i c.loop-digit-test.true) in
    omega (
      arith,
      few_digits ds (i + 1) c.requires.digits c.requires.few,
      more.0,
      c.loop-digit.invariant,
      c.from.ensures,
    )

pub loop-digit-preserved : goal.loop-digit-preserved
loop-digit-preserved c =
    let i = c.loop-digit.digit-index in let ds = c.args.digits.now in
    let more =
    one_digit_more ds i (get_or ds i 0) c.requires.digits c.loop-digit-test.true
    (same ds i c.loop-digit-test.true) in
    omega (arith, more.0, c.loop-digit.invariant, c.from.ensures)

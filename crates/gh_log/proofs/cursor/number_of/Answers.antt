use Rattle.std.proofs.Common.{sym, ap, ◌∙◌, arith}
use Rattle.std.specs.Fmt.{decimal}
use Rattle.gh_log.proofs.NumberLemmas.{none_empty, too_many, zero_first, just_zero, written_is, writes_its_value}
use Rattle.gh_log.proofs.cursor.number_of.Goals as goal

pub returns-in_default : goal.returns-in_default
returns-in_default c = none_empty c.args.digits.now c.in_default.len_below

pub returns-then-digits-gt10 : goal.returns-then-digits-gt10
returns-then-digits-gt10 c = too_many c.args.digits.now c.if-digits-gt10.true

pub returns-then-digits-gt-ALONE : goal.returns-then-digits-gt-ALONE
returns-then-digits-gt-ALONE c = zero_first c.args.digits.now c.if-first-eq48.true c.if-digits-gt-ALONE.true

pub returns-then-first-eq48 : goal.returns-then-first-eq48
returns-then-first-eq48 c =
    just_zero c.args.digits.now c.if-first-eq48.true c.in-len1-up.len_at_least c.if-digits-gt-ALONE.false

pub returns-then-value-from : goal.returns-then-value-from
returns-then-value-from c n k e =
    let value = written_is c.args.digits.now c.requires n k e in
    omega (arith, c.if-value-from.true, c.from.ensures, c.value_of-value.ensures, value, k)

pub returns : goal.returns
returns c =
    let ds = c.args.digits.now in
    writes_its_value ds c.requires (omega arith) (λ z. absurd (c.if-first-eq48.false z))
    (omega (arith, c.if-value-from.false, c.from.ensures, c.value_of-value.ensures))
    ∙ ap decimal (sym c.value_of-value.ensures)

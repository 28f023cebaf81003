use Rattle.std.proofs.Common.{◌∙◌, sym, subst, take, drop, arith}
use Rattle.std.proofs.lemmas.List.{take-append-drop}
use Rattle.std.specs.Str.Parse.{AllDigits}
use Rattle.gh_log.proofs.NumberLemmas.{digits_by_value, no_number, too_great}
use Rattle.gh_log.proofs.cursor.Reader.number.Goals as goal

pub number_of-requires : goal.number_of-requires
number_of-requires c =
    subst (AllDigits 10) (sym c.split_at.ensures.front)
    (digits_by_value (take c.digits_length.result c.args.self.now.rest.now) c.digits_length.ensures.digits)

pub returns-in_default : goal.returns-in_default
returns-in_default c =
    let text = c.args.self.now.rest.now in let n = c.digits_length.result in
    no_number c.args.limit (take n text) (drop n text) text (omega arith) (take-append-drop n text)
    (digits_by_value (take n text) c.digits_length.ensures.digits) c.digits_length.ensures.ends
    (λ m k e. c.in_default.ensures m k (c.split_at.ensures.front ∙ e))

pub returns-then-number-limit : goal.returns-then-number-limit
returns-then-number-limit c =
    let text = c.args.self.now.rest.now in let n = c.digits_length.result in
    too_great c.args.limit c.in-Some.number (take n text) (drop n text) text (omega arith) c.if-number-limit.true
    (sym c.split_at.ensures.front ∙ c.in-Some.ensures) (take-append-drop n text) c.digits_length.ensures.ends

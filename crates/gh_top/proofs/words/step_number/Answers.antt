use Rattle.std.proofs.Common.{arith}
use Rattle.gh_top.proofs.NumberLemmas.{not_within, within_limit}
use Rattle.gh_top.proofs.words.step_number.Goals as goal

pub returns-then-number-gt1000000-clause-none : goal.returns-then-number-gt1000000-clause-none
returns-then-number-gt1000000-clause-none c =
    λ none n low high e.
    let told = c.condition_number.ensures.some c.in_ok-number.number c.in_ok-number.was in
    not_within 1000000 c.in_ok-number.number n c.args.word.now told.1 c.if-number-gt1000000.true told.2
    (omega (arith, high)) high e

pub returns-clause-some : goal.returns-clause-some
returns-clause-some c =
    λ n e.
    let told = c.condition_number.ensures.some c.in_ok-number.number c.in_ok-number.was in
    within_limit 1000000 c.in_ok-number.number n c.args.word.now told.0 c.if-number-gt1000000.false told.2 e

use Rattle.std.proofs.Common.{◌≡◌, arith, sym, ap, ◌∙◌}
use Rattle.std.specs.Prelude.{Bool, true, false, not}
use Rattle.std.specs.Str.{bytes_eq}
use Rattle.std.specs.Fmt.{decimal}
use Rattle.gh_grass.proofs.Bonds.{same_name}
use Rattle.std.proofs.lemmas.Fmt.{parse-decimal}
use Rattle.gh_top.proofs.words.condition_number.Goals as goal

no_both : (b : Bool) → b ≡ true → not b ≡ true → ⊥
no_both true e f = absurd cc
no_both false e f = absurd cc

pub returns-in_default-clause-none : goal.returns-in_default-clause-none
returns-in_default-clause-none c =
    λ none n low high e.
    let read =
    parse-decimal 32 n c.args.word.now c.parse.result (omega (arith, high)) (omega (arith, high)) e
    c.parse.ensures.value.0 in
    absurd (c.in_default.not-Ok n read)

pub returns-then-written-eq0-clause-none : goal.returns-then-written-eq0-clause-none
returns-then-written-eq0-clause-none c =
    λ none n low high e.
    let read =
    parse-decimal 32 n c.args.word.now c.parse.result (omega (arith, high)) (omega (arith, high)) e
    c.parse.ensures.value.0 in
    let same : c.in-Ok.written ≡ n = cc in
    absurd (omega (arith, same, low, c.if-written-eq0.true))

pub returns-then-ne-clause-none : goal.returns-then-ne-clause-none
returns-then-ne-clause-none c =
    λ none n low high e.
    let read =
    parse-decimal 32 n c.args.word.now c.parse.result (omega (arith, high)) (omega (arith, high)) e
    c.parse.ensures.value.0 in
    let same : c.in-Ok.written ≡ n = cc in
    let written : bytes_eq c.format.result.now c.args.word.now ≡ true =
    same_name c.format.result.now c.args.word.now (c.format.ensures.text ∙ ap decimal same ∙ sym e) in
    let differ : not (bytes_eq c.format.result.now c.args.word.now) ≡ true = sym c.ne.ensures ∙ c.if-ne.true in
    no_both (bytes_eq c.format.result.now c.args.word.now) written differ

use Rattle.std.proofs.Common.{◌∙◌, ap, map, arith}
use Rattle.std.proofs.lemmas.List.{take_all}
use Rattle.gh_symb.specs.Tables.{kind_of}
use Rattle.gh_symb.specs.Encodings.{plain_kind}
use Rattle.gh_symb.proofs.KindLemmas.{first_encoded, encoded_length, encoded_more, short_at}
use Rattle.gh_symb.proofs.kinds.encode_kinds.Goals as goal

pub loop-place-init : goal.loop-place-init
loop-place-init c = ap (map plain_kind) c.in_ok-terms.ensures ∙ first_encoded c.args.kinds.now c.requires.listed.first

pub encode-requires : goal.encode-requires
encode-requires c =
    let l = c.in-Some.ensures.lookup in
    short_at c.args.kinds.now c.loop-place.place c.in-Some.found.now c.requires.listed c.requires.short
    (omega (arith, c.requires.few)) l.3.0 l.1

pub add-requires : goal.add-requires
add-requires c =
    omega (
      arith,
      encoded_length c.args.kinds.now c.loop-place.place c.loop-place.terms
          (omega (arith, c.loop-place-test.true)) c.loop-place.invariant,
      c.requires.few,
      c.loop-place-test.true,
    )

pub returns : goal.returns
returns c =
    c.loop-place.invariant ∙ ap (map kind_of)
    (take_all c.loop-place.place c.args.kinds.now (omega (arith, c.loop-place-test.false)))

pub loop-place-preserved : goal.loop-place-preserved
loop-place-preserved c =
    let l = c.in-Some.ensures.lookup in
    encoded_more c.args.kinds.now c.loop-place.place c.in-Some.found.now c.requires.listed l.3.0 l.1 c.loop-place.terms
    c.add.new.self c.encode.result
    c.loop-place.invariant c.encode.ensures c.in_ok-add.ensures.added

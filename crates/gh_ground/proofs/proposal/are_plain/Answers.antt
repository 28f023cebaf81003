use Rattle.std.proofs.Common.{arith, refl, subst}
use Rattle.std.proofs.lemmas.Option.{get_or_from_slice_get}
use Rattle.gh_base.proofs.ListLemmas.{get_within}
use Rattle.gh_inst.proofs.CollectingLemmas.{take_more_all}
use Rattle.gh_sat.proofs.NeededLemmas.{all_taken}
use Rattle.gh_log.specs.Tables.{line_of}
use Rattle.gh_ground.specs.Solving.{IsPlain}
use Rattle.gh_ground.proofs.proposal.are_plain.Goals as goal

pub returns-then-not-is_plain : goal.returns-then-not-is_plain
returns-then-not-is_plain c = (
  λ t. absurd (cc),
  λ all.
      let l = line_of c.line.result in
      let lines = c.args.lines.now in
      let place = c.loop-place.place in
      let plain = subst IsPlain (get_or_from_slice_get lines place l l c.line.ensures)
      (all place l (get_within lines place l c.line.ensures)) in
      let t = c.is_plain.ensures.1 plain in let f = c.if-not-is_plain.true in cc,
)

pub loop-place-preserved : goal.loop-place-preserved
loop-place-preserved c =
    take_more_all IsPlain c.args.lines.now c.loop-place.place (line_of c.line.result) c.line.ensures
    c.loop-place.invariant (c.is_plain.ensures.0 c.if-not-is_plain.false)

pub returns : goal.returns
returns c = (
  λ _. all_taken IsPlain c.args.lines.now c.loop-place.place (omega arith) c.loop-place.invariant,
  λ _. refl,
)

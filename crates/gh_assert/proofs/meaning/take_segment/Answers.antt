use Rattle.std.proofs.Common.{◌<◌, ◌∙◌, sym, subst}
use Rattle.std.specs.FinMap.{len}
use Rattle.gh_assert.proofs.Cells.{get_nothing}
use Rattle.gh_assert.proofs.Taking.{GoesOn, FromTo, takes_nothing, segment_goes, segment_ends, fewer}
use Rattle.gh_assert.proofs.meaning.take_segment.Goals as goal

pub loop-at-smaller : goal.loop-at-smaller
loop-at-smaller c =
    subst (λ h. len h < len c.loop-at.remaining.1) (sym c.in-Some.ensures.rest)
    (fewer c.loop-at.remaining.1 c.loop-at.at c.in-Some.next (sym c.in-Some.ensures.content))

pub loop-at-preserved : goal.loop-at-preserved
loop-at-preserved c = record {
  whole = c.in-Some.ensures.whole ∙ c.loop-at.invariant.whole;
  goes = subst (GoesOn (FromTo c.args.from c.args.to) (FromTo c.in-Some.next c.args.to) c.args.remaining.now.1)
      (sym c.in-Some.ensures.rest)
      (segment_goes (FromTo c.args.from c.args.to) c.args.remaining.now.1 c.loop-at.remaining.1 c.loop-at.at c.args.to
      c.in-Some.next c.loop-at.invariant.goes c.loop-at-test.true c.in-Some.ensures.not_null
      (sym c.in-Some.ensures.content));
}

pub returns-in-None-clause-part : goal.returns-in-None-clause-part
returns-in-None-clause-part c =
    c.loop-at.invariant.goes.back
    (segment_ends c.loop-at.remaining.1 c.loop-at.at c.args.to c.loop-at-test.true (sym c.in-None.ensures.content))

pub returns-clause-part : goal.returns-clause-part
returns-clause-part c =
    c.loop-at.invariant.goes.on c.loop-at.remaining.1
    (takes_nothing (FromTo c.loop-at.at c.args.to) c.loop-at.remaining.1 (0, (c.loop-at-test.false, get_nothing)))

use Rattle.std.proofs.Common.{◌<◌, sym, subst}
use Rattle.std.specs.FinMap.{len}
use Rattle.gh_assert.proofs.Taking.{fewer}
use Rattle.gh_lens.proofs.Parting.{way_goes, way_ends}
use Rattle.gh_lens.proofs.taking.broken_at.Goals as goal

pub loop-at-smaller : goal.loop-at-smaller
loop-at-smaller c =
    subst (λ h. len h < len c.loop-at.left) (sym c.in-Some.ensures.rest)
    (fewer c.loop-at.left c.loop-at.at c.in-Some.next (sym c.in-Some.ensures.content))

pub loop-at-preserved : goal.loop-at-preserved
loop-at-preserved c =
    way_goes c.args.from c.args.to c.args.rest.now c.loop-at.left c.take.new.self c.loop-at.at c.in-Some.next
    c.loop-at-test.true c.in-Some.ensures.content c.in-Some.ensures.rest c.loop-at.invariant

pub returns-clause-none : goal.returns-clause-none
returns-clause-none c =
    way_ends c.args.from c.args.to c.args.rest.now c.loop-at.left c.loop-at.at c.loop-at-test.false c.loop-at.invariant

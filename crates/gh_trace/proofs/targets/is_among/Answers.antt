use Rattle.gh_trace.proofs.Listings.{among_more}
use Rattle.gh_trace.proofs.targets.is_among.Goals as goal

pub loop-occurrence-preserved : goal.loop-occurrence-preserved
loop-occurrence-preserved c =
    among_more c.args.occurrences.now c.loop-occurrence.occurrence-index c.occurrence-item.result c.args.name.now
    c.loop-occurrence-test.true c.occurrence-item.is
    (λ same. let holds = c.is_same.ensures.1 same in absurd cc) c.loop-occurrence.invariant

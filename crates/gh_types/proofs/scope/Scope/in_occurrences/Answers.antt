use Rattle.std.proofs.Common.{arith}
use Rattle.gh_types.proofs.FirstLemmas.{first_next, first_whole}
use Rattle.gh_types.proofs.scope.Scope.in_occurrences.Goals as goal

pub loop-occurrence-preserved : goal.loop-occurrence-preserved
loop-occurrence-preserved c =
    first_next _ c.args.occurrences.now c.loop-occurrence.occurrence-index c.occurrence-item.result _ _ _ (omega arith)
    c.occurrence-item.is c.earlier-first.ensures c.loop-occurrence.invariant c.in_occurrence.ensures

pub returns : goal.returns
returns c =
    first_whole _ c.args.occurrences.now c.loop-occurrence.occurrence-index _ (omega arith) c.loop-occurrence.invariant

use Rattle.std.proofs.Common.{subst}
use Rattle.gh_cc.specs.Partitions.{Merged, AreMerges}
use Rattle.gh_cc.proofs.partition.Partition.depth.Goals as goal

pub returns-clause-merges : goal.returns-clause-merges
returns-clause-merges c = subst (λ (p : Merged). AreMerges p.terms p.links) c.self.view_is c.self.invariant.merges

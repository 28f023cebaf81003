use Rattle.gh_cc.proofs.PartitionLemmas.{rep_read}
use Rattle.gh_cc.proofs.partition.Partition.rep.Goals as goal

pub returns-clause-range : goal.returns-clause-range
returns-clause-range c =
    let within = rw (← c.self.view_is) at c.requires in
    rw (← c.self.view_is) (rep_read _ _ _ _ _ _ c.self.invariant within c.index.ensures).1

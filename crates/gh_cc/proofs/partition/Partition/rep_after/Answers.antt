use Rattle.gh_cc.proofs.PartitionLemmas.{row_read}
use Rattle.gh_cc.proofs.partition.Partition.rep_after.Goals as goal

pub returns : goal.returns
returns c =
    let within = rw (← c.self.view_is) at c.requires.depth in
    let inside = rw (← c.self.view_is) at c.requires.term in
    rw (← c.self.view_is)
    (row_read _ _ _ _ c.args.depth c.args.term.0 c.index-row.result.now _ c.index.result.now c.self.invariant within
    inside c.index-row.ensures c.row.view_is c.index.ensures)

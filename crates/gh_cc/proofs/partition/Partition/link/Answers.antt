use Rattle.std.proofs.Common.{◌<◌, length}
use Rattle.gh_cc.proofs.PartitionLemmas.{link_read}
use Rattle.gh_cc.proofs.partition.Partition.link.Goals as goal

pub returns-clause-from : goal.returns-clause-from
returns-clause-from c =
    let within : c.args.depth < length c.self.inside.links.items = rw (← c.self.view_is) at c.requires in
    let read = link_read _ _ c.args.depth c.index.result.now c.self.invariant.merges within c.index.ensures in
    rw (← c.self.view_is) read.0

pub returns-clause-to : goal.returns-clause-to
returns-clause-to c =
    let within : c.args.depth < length c.self.inside.links.items = rw (← c.self.view_is) at c.requires in
    let read = link_read _ _ c.args.depth c.index.result.now c.self.invariant.merges within c.index.ensures in
    rw (← c.self.view_is) read.1

pub returns-clause-apart : goal.returns-clause-apart
returns-clause-apart c =
    let within : c.args.depth < length c.self.inside.links.items = rw (← c.self.view_is) at c.requires in
    let read = link_read _ _ c.args.depth c.index.result.now c.self.invariant.merges within c.index.ensures in
    rw (← c.self.view_is) read.2

use Rattle.std.proofs.Common.{◌≡◌, arith, length, subst, sym}
use Rattle.gh_cc.specs.Partitions.{Merged, rep_of}
use Rattle.gh_cc.proofs.PartitionLemmas.{rep_past}
use Rattle.gh_cc.proofs.partition.Partition.class_of.Goals as goal

pub returns : goal.returns
returns c =
    let i = c.self.inside in
    let t = c.args.term in
    subst (λ (p : Merged). t.0 ≡ rep_of p t.0) c.self.view_is
    (sym (rep_past (length i.reps.items) i.links.items (length i.links.items) t.0 c.self.invariant.merges (omega arith)
    (omega arith)))

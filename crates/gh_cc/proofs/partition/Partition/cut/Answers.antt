use Rattle.std.proofs.Common.{◌≡◌, ◌<◌, refl, Some, length, arith}
use Rattle.std.specs.Prelude.{slice_get}
use Rattle.std.proofs.lemmas.Option.{slice_get_read}
use Rattle.gh_cc.proofs.PartitionLemmas.{partition_cut, links_few}
use Rattle.gh_cc.proofs.partition.Partition.cut.Goals as goal

pub invariant_of-self : goal.invariant_of-self
invariant_of-self c =
    let p = c.self.invariant in
    let s = c.self.inside in
    let within : c.args.depth < length s.links.items = omega arith in
    let row = c.index-row.result.now in
    let few = links_few _ _ p.merges in
    let at : slice_get s.saved.items c.args.depth ≡ Some row =
    slice_get_read s.saved.items (length s.saved.items) c.args.depth row refl
    (omega (arith, p.rows)) c.index-row.ensures in
    rw (
      c.truncate.ensures.items,
      c.truncate.ensures.capacity,
      c.copy_from_slice.ensures.items,
      c.as_slice.ensures.value,
      c.row.view_is,
    )
    (partition_cut s.links.items s.reps.items s.saved.items _ c.args.depth row p within at)

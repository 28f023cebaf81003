use Rattle.std.proofs.Common.{◌≡◌, ap, sym, length, arith, subst, List}
use Rattle.std.proofs.lemmas.List.Elements.{All-get_or}
use Rattle.gh_base.specs.declared.atom.Term.{Term}
use Rattle.gh_cc.proofs.PartitionLemmas.{room_left, rep_read, partition_merge}
use Rattle.gh_cc.proofs.partition.Partition.merge.Goals as goal

pub index_mut-row-requires : goal.index_mut-row-requires
index_mut-row-requires c =
    let p = c.self.invariant in
    let from = rw (← c.self.view_is) at c.requires.from in
    omega (arith, room_left _ _ _ p.merges from, p.rows)

pub copy_from_slice-requires : goal.copy_from_slice-requires
copy_from_slice-requires c =
    let p = c.self.invariant in
    let from = rw (← c.self.view_is) at c.requires.from in
    let row = c.index_mut-row.result.now in
    let long : length row ≡ length c.self.inside.reps.items =
    subst (λ (r : List Term). length r ≡ length c.self.inside.reps.items) (sym c.index_mut-row.ensures.value)
    (All-get_or (λ (r : List Term). length r ≡ length c.self.inside.reps.items) c.self.inside.saved.items c.len.result
    row (omega (arith, room_left _ _ _ p.merges from, p.rows)) p.long)
    in
    omega (arith, ap length c.row.view_is, long, ap length c.as_slice.ensures.value)

pub push_reserved-requires : goal.push_reserved-requires
push_reserved-requires c =
    let p = c.self.invariant in
    let from = rw (← c.self.view_is) at c.requires.from in
    omega (arith, room_left _ _ _ p.merges from, p.reserved)

pub invariant_of-self : goal.invariant_of-self
invariant_of-self c =
    let p = c.self.invariant in
    let s = c.self.inside in
    let from = rw (← c.self.view_is) at c.requires.from in
    let to = rw (← c.self.view_is) at c.requires.to in
    let apart = rw (← c.self.view_is) at c.requires.apart in
    let old = rep_read _ _ _ _ _ _ p from c.index-old.ensures in
    let new = rep_read _ _ _ _ _ _ p to c.index-new.ensures in
    let d : c.len.result ≡ length s.links.items = omega arith in
    rw (
      c.push_reserved.ensures.items,
      c.push_reserved.ensures.capacity,
      c.relabel.ensures,
      c.copy_from_slice.ensures.items,
      c.as_slice.ensures.value,
      d,
    )
    (partition_merge s.links.items s.reps.items s.saved.items _ (record { from = c.args.from; to = c.args.to }) _ _ p
    from to apart old.0 new.0)

use Rattle.std.proofs.Common.{arith}
use Rattle.gh_cc.proofs.SignatureLemmas.{table_free, some_left, signs_more}
use Rattle.gh_cc.proofs.signatures.SignatureTable.put.Goals as goal

pub push_reserved-requires : goal.push_reserved-requires
push_reserved-requires c =
    let s = c.self.inside in
    let within = rw (← c.self.view_is) at c.requires.number in
    let none = rw (← c.self.view_is) at c.requires.free in
    let free = table_free s.table.items s.entries.items _ c.args.number c.self.invariant within none in
    omega (arith, some_left s.table.items c.args.number free, c.self.invariant.counted, c.self.invariant.reserved)

pub invariant_of-self : goal.invariant_of-self
invariant_of-self c =
    let s = c.self.inside in
    let within = rw (← c.self.view_is) at c.requires.number in
    let none = rw (← c.self.view_is) at c.requires.free in
    rw (c.push_reserved.ensures.items, c.push_reserved.ensures.capacity)
    (signs_more s.table.items s.entries.items _ (record { number = c.args.number; lit = c.args.lit }) c.self.invariant
    within none)

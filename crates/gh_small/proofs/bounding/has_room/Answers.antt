use Rattle.std.proofs.Common.{arith}
use Rattle.std.proofs.lemmas.Bool.{ltb-true, lt-ltb, leb-true, le-leb}
use Rattle.gh_small.proofs.RoomLemmas.{room_says}
use Rattle.gh_small.proofs.bounding.has_room.Goals as goal

pub returns-then-clauses-le4294967294 : goal.returns-then-clauses-le4294967294
returns-then-clauses-le4294967294 c =
    let says =
    room_says c.args.ground.now c.sizes-sizes.result c.args.cells c.count.result c.sizes-sizes.ensures.sizes
    c.count.ensures.count c.sizes-sizes.ensures.valid.terms c.requires in
    (λ t. says.1 (c.if-clauses-le4294967294.true, ltb-true _ _ t), λ h. lt-ltb _ _ (says.0 h).1)

pub returns-else-clauses-le4294967294 : goal.returns-else-clauses-le4294967294
returns-else-clauses-le4294967294 c =
    let says =
    room_says c.args.ground.now c.sizes-sizes.result c.args.cells c.count.result c.sizes-sizes.ensures.sizes
    c.count.ensures.count c.sizes-sizes.ensures.valid.terms c.requires in
    (λ t. absurd (let few = leb-true _ _ t in omega arith), λ h. le-leb _ _ (says.0 h).0)

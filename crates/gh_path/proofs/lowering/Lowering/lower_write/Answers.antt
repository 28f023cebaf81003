use Rattle.std.proofs.Common.{refl}
use Rattle.gh_path.specs.Graphs.{reads, visits, moves, write_step}
use Rattle.gh_path.specs.declared.node.Step.TheVariants as step
use Rattle.gh_path.proofs.ShownLemmas.{add_move, then}
use Rattle.gh_path.proofs.lowering.Lowering.lower_write.Goals as goal

pub returns-clause-adds : goal.returns-clause-adds
returns-clause-adds c = λ g shows.
    let ns = c.args.nodes.now in
    let k = moves (write_step c.args.at.now c.args.value.now) g in
    let v = visits c.args.at.now k in
    let one =
    add_move ns c.add.new.self c.in_ok-place.place c.args.next (step.Write c.args.at c.args.value)
    (write_step c.args.at.now c.args.value.now) g c.in_ok-place.ensures.added c.in_ok-place.ensures.place refl
    shows in
    let two = then ns c.add.new.self c.lower_visit.new.nodes c.in_ok-place.place c.in_ok-visit.visit k v one
    (c.in_ok-visit.ensures.adds k one.shows) in
    then ns c.lower_visit.new.nodes c.lower_read.new.nodes c.in_ok-visit.visit c.in_ok-first.first v
    (reads c.args.value.now v) two (c.in_ok-first.ensures.adds v two.shows)

use Rattle.std.proofs.Common.{refl}
use Rattle.gh_path.specs.Graphs.{reads, moves, set_step}
use Rattle.gh_path.specs.declared.node.Step.TheVariants as step
use Rattle.gh_path.proofs.ShownLemmas.{add_move, then}
use Rattle.gh_path.proofs.lowering.Lowering.lower_set.Goals as goal

pub returns-clause-adds : goal.returns-clause-adds
returns-clause-adds c = λ g shows.
    let ns = c.args.nodes.now in
    let k = moves (set_step c.args.target.now c.args.value.now) g in
    let one =
    add_move ns c.add.new.self c.in_ok-place.place c.args.next (step.Set c.args.target c.args.value)
    (set_step c.args.target.now c.args.value.now) g c.in_ok-place.ensures.added c.in_ok-place.ensures.place refl
    shows in
    then ns c.add.new.self c.lower_read.new.nodes c.in_ok-place.place c.in_ok-first.first k (reads c.args.value.now k)
    one (c.in_ok-first.ensures.adds k one.shows)

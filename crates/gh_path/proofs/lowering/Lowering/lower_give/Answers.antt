use Rattle.std.proofs.Common.{refl}
use Rattle.gh_path.specs.Graphs.{all_reads, moves, ends, return_step, return_check}
use Rattle.gh_path.specs.declared.node.Step.TheVariants as step
use Rattle.gh_path.proofs.ShownLemmas.{add_move, add_end, then}
use Rattle.gh_path.proofs.lowering.Lowering.lower_give.Goals as goal

pub returns-clause-adds : goal.returns-clause-adds
returns-clause-adds c = λ g.
    let ns = c.args.nodes.now in
    let last = ends (return_check c.args.span) in
    let x = return_step c.args.values.now in
    let k = moves x last in
    let end =
    add_end ns c.add.new.self c.in_ok-end.end _ (return_check c.args.span) c.in_ok-end.ensures.added
    c.in_ok-end.ensures.place refl in
    let step =
    add_move c.add.new.self c.add-2.new.self c.in_ok-place.place c.in_ok-end.end (step.Return c.args.values) x last
    c.in_ok-place.ensures.added c.in_ok-place.ensures.place refl end.shows in
    let one = then ns c.add.new.self c.add-2.new.self c.in_ok-end.end c.in_ok-place.place last k end step in
    then ns c.add-2.new.self c.lower_reads.new.nodes c.in_ok-place.place c.in_ok-first.first k
    (all_reads c.args.values.now k) one (c.in_ok-first.ensures.adds k one.shows)

use Rattle.std.proofs.Common.{refl}
use Rattle.gh_ast.specs.Plain.{cond_of}
use Rattle.gh_path.specs.Graphs.{dead_end, guarded, tested, loop_entry, while_step}
use Rattle.gh_path.specs.declared.node.Step.TheVariants as step
use Rattle.gh_path.proofs.ShownLemmas.{add_dead, add_guard, then, still}
use Rattle.gh_path.proofs.lowering.Lowering.lower_pass.Goals as goal

pub returns-clause-adds : goal.returns-clause-adds
returns-clause-adds c = λ g shows.
    let ns = c.args.nodes.now in
    let n = c.args.number in
    let h = tested (cond_of c.args.test.now) dead_end g in
    let k = guarded (loop_entry c.args.span n) (while_step n) h in
    let dead = add_dead ns c.add.new.self c.in_ok-dead.dead c.in_ok-dead.ensures.added c.in_ok-dead.ensures.place in
    let past =
    c.in_ok-next.ensures.adds dead_end g dead.shows
    (still ns c.add.new.self c.in_ok-dead.dead c.args.next dead_end g dead shows) in
    let one = then ns c.add.new.self c.lower_test.new.nodes c.in_ok-dead.dead c.in_ok-next.next dead_end h dead past in
    let two =
    add_guard c.lower_test.new.nodes c.add-2.new.self c.in_ok-place.place c.in_ok-next.next _ (step.Loop n)
    (loop_entry c.args.span n) (while_step n) h
    c.in_ok-place.ensures.added c.in_ok-place.ensures.place refl refl past.shows in
    then ns c.lower_test.new.nodes c.add-2.new.self c.in_ok-next.next c.in_ok-place.place h k one two

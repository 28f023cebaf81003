use Rattle.std.proofs.Common.{◌≡◌, ap}
use Rattle.gh_ast.specs.Plain.{program_of}
use Rattle.gh_path.specs.Graphs.{all_reads, guarded, callee_entry, call_step, number_of}
use Rattle.gh_path.specs.declared.node.Step.TheVariants as step
use Rattle.gh_path.proofs.ShownLemmas.{add_guard, then}
use Rattle.gh_path.proofs.lowering.Lowering.lower_call.Goals as goal

pub returns-clause-adds : goal.returns-clause-adds
returns-clause-adds c = λ g shows.
    let P = program_of c.args.self.now.program.now in
    let ns = c.args.nodes.now in
    let f = c.args.callee.now in
    let n = c.callee-number.result in
    let m = number_of P f.name in
    let xs = c.args.targets.now in
    let es = c.args.arguments.now in
    let k = guarded (callee_entry f.span m es) (call_step xs m es) g in
    let is : n ≡ m = c.callee-number.ensures in
    let one =
    add_guard ns c.add.new.self c.in_ok-place.place c.args.next _ (step.Call c.args.targets n c.args.arguments)
    (callee_entry f.span m es) (call_step xs m es) g
    c.in_ok-place.ensures.added c.in_ok-place.ensures.place (ap (λ j. callee_entry f.span j es) is)
    (ap (λ j. call_step xs j es) is) shows in
    then ns c.add.new.self c.lower_reads.new.nodes c.in_ok-place.place c.in_ok-first.first k (all_reads es k) one
    (c.in_ok-first.ensures.adds k one.shows)

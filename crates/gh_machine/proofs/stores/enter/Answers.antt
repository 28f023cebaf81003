use Rattle.std.proofs.Common.{take, drop, length, ◌-◌}
use Rattle.gh_ast.specs.Plain.{procedure_of}
use Rattle.gh_machine.proofs.Begun.{first_apart, second_apart, third_apart, all_listed, few_starts, cut_whole}
use Rattle.gh_machine.proofs.stores.enter.Goals as goal

pub list-requires-clause-distinct : goal.list-requires-clause-distinct
list-requires-clause-distinct c =
    first_apart (procedure_of c.args.procedure.now) c.new-store.result c.as_slice.result.now c.requires.distinct
    c.new-store.ensures c.as_slice.ensures.value

pub list-requires-2-clause-distinct : goal.list-requires-2-clause-distinct
list-requires-2-clause-distinct c =
    second_apart (procedure_of c.args.procedure.now) c.new-store.result c.list.new.store c.as_slice.result.now
    c.as_slice-2.result.now c.args.arguments.now c.requires.distinct c.new-store.ensures c.in_ok-list.ensures
    c.as_slice.ensures.value c.as_slice-2.ensures.value c.requires.arguments

pub list-requires-3-clause-distinct : goal.list-requires-3-clause-distinct
list-requires-3-clause-distinct c =
    third_apart (procedure_of c.args.procedure.now) c.new-store.result c.list.new.store c.list-2.new.store
    c.as_slice.result.now c.as_slice-2.result.now c.locals.result.now c.args.arguments.now
    (take c.len-count.result c.args.starts.now) c.requires.distinct c.new-store.ensures c.in_ok-list.ensures
    c.in_ok-list-2.ensures
    c.as_slice.ensures.value c.as_slice-2.ensures.value c.locals.ensures c.requires.arguments
    (few_starts (procedure_of c.args.procedure.now) c.len-count.result _ c.args.starts.now c.len-count.ensures
    c.args.procedure.now.results.ok.0 c.requires.starts)

pub returns-clause-store : goal.returns-clause-store
returns-clause-store c =
    all_listed (procedure_of c.args.procedure.now) c.new-store.result c.list.new.store c.list-2.new.store
    c.list-3.new.store c.as_slice.result.now c.as_slice-2.result.now c.locals.result.now c.args.arguments.now
    c.args.starts.now (take c.len-count.result c.args.starts.now)
    (take (length c.args.starts.now - c.len-count.result) (drop c.len-count.result c.args.starts.now))
    c.new-store.ensures c.in_ok-list.ensures c.in_ok-list-2.ensures c.in_ok-list-3.ensures
    c.as_slice.ensures.value c.as_slice-2.ensures.value c.locals.ensures c.requires.arguments
    (few_starts (procedure_of c.args.procedure.now) c.len-count.result _ c.args.starts.now c.len-count.ensures
    c.args.procedure.now.results.ok.0 c.requires.starts) (cut_whole c.len-count.result c.args.starts.now)

use Rattle.std.proofs.Common.{sym, ◌∙◌}
use Rattle.std.proofs.lemmas.List.{length-map}
use Rattle.gh_ast.specs.declared.Occ.{Occ}
use Rattle.gh_ast.specs.Plain.{program_of}
use Rattle.gh_machine.proofs.Kept.{start_made}
use Rattle.gh_machine.proofs.Started.{started_apart, started_arguments, started_starts, started_there, started_typed}
use Rattle.gh_machine.proofs.config.Config.start.Goals as goal

pub enter-requires-clause-distinct : goal.enter-requires-clause-distinct
enter-requires-clause-distinct c =
    started_apart c.args.typed.now c.program.result.now c.args.procedure c.from.result c.index-procedure.result.now
    c.program.ensures.same c.program.ensures.typed c.from.ensures c.requires.there c.index-procedure.ensures

pub enter-requires-clause-arguments : goal.enter-requires-clause-arguments
enter-requires-clause-arguments c =
    started_arguments c.args.typed.now c.program.result.now c.args.procedure c.from.result c.index-procedure.result.now
    c.args.arguments.now c.program.ensures.same c.from.ensures c.requires.there c.index-procedure.ensures
    c.requires.arguments

pub enter-requires-clause-starts : goal.enter-requires-clause-starts
enter-requires-clause-starts c =
    started_starts c.args.typed.now c.program.result.now c.args.procedure c.from.result c.index-procedure.result.now
    c.args.starts.now c.program.ensures.same c.from.ensures c.requires.there c.index-procedure.ensures c.requires.starts

pub returns-clause-made : goal.returns-clause-made
returns-clause-made c =
    start_made (program_of c.args.typed.now) _ c.index-procedure.result.now c.args.arguments.now c.args.starts.now
    (started_typed c.args.typed.now c.program.result.now c.program.ensures.same c.program.ensures.typed)
    (started_there c.args.typed.now c.program.result.now c.args.procedure c.from.result c.index-procedure.result.now
    c.program.ensures.same c.from.ensures c.requires.there c.index-procedure.ensures) c.in_ok-top.ensures.procedure
    c.in_ok-top.ensures.store c.in_ok-top.ensures.rest c.new.ensures.items
    (started_arguments c.args.typed.now c.program.result.now c.args.procedure c.from.result c.index-procedure.result.now
    c.args.arguments.now c.program.ensures.same c.from.ensures c.requires.there c.index-procedure.ensures
    c.requires.arguments ∙ sym (length-map c.index-procedure.result.now.parameters.items (λ (o : Occ). o.name)))
    (started_starts c.args.typed.now c.program.result.now c.args.procedure c.from.result c.index-procedure.result.now
    c.args.starts.now c.program.ensures.same c.from.ensures c.requires.there c.index-procedure.ensures
    c.requires.starts)

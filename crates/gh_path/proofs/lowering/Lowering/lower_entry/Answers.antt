use Rattle.std.proofs.Common.{refl}
use Rattle.gh_ast.specs.Plain.{program_of, procedure_of}
use Rattle.gh_path.proofs.RootLemmas.{entry_added}
use Rattle.gh_path.proofs.lowering.Lowering.lower_entry.Goals as goal

pub returns : goal.returns
returns c =
    entry_added (program_of c.args.self.now.program.now) (procedure_of c.args.self.now.procedure.now) c.args.nodes.now
    c.add.new.self c.lower_block.new.nodes c.in_ok-end.end c.in_ok-place.place _
    c.statements_of-statements.result.now c.in_ok-end.ensures.added c.in_ok-end.ensures.place refl
    c.statements_of-statements.ensures c.in_ok-place.ensures.adds

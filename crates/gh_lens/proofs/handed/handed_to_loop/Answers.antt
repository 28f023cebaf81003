use Rattle.gh_ast.specs.Plain.{procedure_of, program_of}
use Rattle.gh_path.specs.Graphs.{loops_of}
use Rattle.gh_path.specs.Walking.{loop_of}
use Rattle.gh_trace.specs.Kept.{state_of}
use Rattle.gh_lens.proofs.Handing.{loop_hands, stands_there, with_both}
use Rattle.gh_lens.proofs.handed.handed_to_loop.Goals as goal

pub unreachable-requires : goal.unreachable-requires
unreachable-requires c =
    stands_there (loops_of (procedure_of c.args.setting.procedure.now)) c.args.number c.requires.there
    c.in_default.ensures.none

pub returns : goal.returns
returns c =
    let P = program_of c.args.setting.typed.now in
    let proc = procedure_of c.args.setting.procedure.now in
    with_both c.exchanged.result _ _ _
    (λ o some none. loop_hands P proc c.args.number (loop_of c.in-Some.round) (state_of c.args.before.now)
    (state_of c.args.after.now) o c.in-Some.ensures.some some none)
    c.exchanged.ensures.some c.exchanged.ensures.none

use Rattle.gh_ast.specs.Plain.{program_of}
use Rattle.gh_lens.proofs.Telling.{has_procedure}
use Rattle.gh_scene.proofs.sketch.shown.Goals as goal

pub unreachable-requires : goal.unreachable-requires
unreachable-requires c =
    has_procedure (program_of c.args.typed.now) c.args.condition.now c.requires.scoped c.in_default.ensures.none

pub scene-requires-clause-own : goal.scene-requires-clause-own
scene-requires-clause-own c = c.in-Some.ensures.some

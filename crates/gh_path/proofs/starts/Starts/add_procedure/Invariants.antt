use Rattle.std.proofs.Common.{◌≡◌, ◌++◌, List, drop, map}
use Rattle.gh_ast.specs.Plain.{program_of, procedure_of}
use Rattle.gh_path.specs.Conditions.{Condition, condition, from_starts, courses_of}
use Rattle.gh_path.specs.Graphs.{loop_starts, IsProcedureAt}
use Rattle.gh_path.specs.Roots.{AreStarts}
use Rattle.gh_path.specs.Walking.{loop_of}
use Rattle.gh_path.proofs.starts.Starts.add_procedure.Given as goal

abbrev pub invariant-loop-place : goal.invariant-loop-place
invariant-loop-place l = (cs : List Condition) → AreStarts (program_of l.lowering.program.now) l.fn.self cs →
    IsProcedureAt (program_of l.lowering.program.now) l.fn.procedure (procedure_of l.lowering.procedure.now) →
    (es : List Condition) × AreStarts (program_of l.lowering.program.now) l.self es
    × (es ++ map (condition l.fn.procedure)
    (from_starts (program_of l.lowering.program.now) (procedure_of l.lowering.procedure.now)
    (loop_starts l.place (map loop_of (drop l.place l.turn-items))))
    ≡ cs ++ map (condition l.fn.procedure)
    (courses_of (program_of l.lowering.program.now) (procedure_of l.lowering.procedure.now)))

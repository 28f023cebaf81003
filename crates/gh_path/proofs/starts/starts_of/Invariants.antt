use Rattle.std.proofs.Common.{◌≡◌, ◌++◌, List, drop}
use Rattle.gh_ast.specs.Plain.{program_of}
use Rattle.gh_path.specs.Conditions.{Condition, from_procedures, conditions}
use Rattle.gh_path.specs.Roots.{AreStarts}
use Rattle.gh_path.proofs.starts.starts_of.Given as goal

abbrev pub invariant-loop-index : goal.invariant-loop-index
invariant-loop-index l = (es : List Condition) × AreStarts (program_of l.program) l.starts es
    × (es ++ from_procedures (program_of l.program) l.index (drop l.index (program_of l.program).procedures)
    ≡ conditions (program_of l.program))

use Rattle.std.proofs.Common.{ℕ, ◌<◌}
use Rattle.gh_ast.specs.Plain.{program_of}
use Rattle.gh_run.specs.Lines.{IsNumberOf}
use Rattle.gh_run.proofs.lines.number_of.Given as goal

abbrev pub invariant-loop-i : goal.invariant-loop-i
invariant-loop-i l = (n : ℕ) → n < l.i → IsNumberOf (program_of l.program) l.name n → ⊥

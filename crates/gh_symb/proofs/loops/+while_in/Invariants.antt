use Rattle.std.proofs.Common.{◌≡◌, List, ◌++◌, drop}
use Rattle.std.specs.Prelude.{slice_get}
use Rattle.gh_ast.specs.Plain.{statements_view}
use Rattle.gh_path.specs.Graphs.{While, all_loops}
use Rattle.gh_symb.proofs.loops.+while_in.Given as goal

abbrev pub invariant-while_among-loop-statement : goal.invariant-while_among-loop-statement
invariant-while_among-loop-statement l =
    (ms : List While) → slice_get (all_loops (statements_view l.statements) ++ ms) l.number
    ≡ slice_get (all_loops (statements_view (drop l.statement-index l.statements)) ++ ms) l.left

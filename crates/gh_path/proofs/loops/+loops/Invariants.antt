use Rattle.std.proofs.Common.{◌≡◌, ◌++◌, map, drop}
use Rattle.gh_ast.specs.Plain.{statements_view}
use Rattle.gh_path.specs.Graphs.{all_loops}
use Rattle.gh_path.specs.Walking.{loop_of}
use Rattle.gh_path.proofs.loops.+loops.Given as goal

abbrev pub invariant-add_all_loops-loop-statement : goal.invariant-add_all_loops-loop-statement
invariant-add_all_loops-loop-statement l =
    map loop_of l.found.items ++ all_loops (statements_view (drop l.statement-index l.statements))
    ≡ map loop_of l.fn.found.items ++ all_loops (statements_view l.statements)

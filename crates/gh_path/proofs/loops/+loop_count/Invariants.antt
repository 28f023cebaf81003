use Rattle.std.proofs.Common.{◌≡◌, ◌+◌, ◌≤◌, drop, min, length}
use Rattle.gh_ast.specs.Plain.{statements_view}
use Rattle.gh_path.specs.Graphs.{all_loops}
use Rattle.gh_path.proofs.loops.+loop_count.Given as goal

abbrev pub invariant-count_all_loops-loop-statement : goal.invariant-count_all_loops-loop-statement
invariant-count_all_loops-loop-statement l = record {
  total : min (l.count + length (all_loops (statements_view (drop l.statement-index l.statements)))) 4294967295
      ≡ min (length (all_loops (statements_view l.statements))) 4294967295;
  within : l.count ≤ 4294967295;
}

use Rattle.std.proofs.Common.{◌≡◌, ◌+◌, ◌++◌, ◌<◌, ◌≤◌, ℕ, length, drop, vec_len, get_or}
use Rattle.gh_ast.specs.Plain.{statement_of, statements_view}
use Rattle.gh_ast.specs.declared.Stmt.{Stmt}
use Rattle.gh_path.specs.Graphs.{all_loops}
use Rattle.gh_path.specs.Lowered.{Suits, AllSuit, first_loops}
use Rattle.gh_path.specs.declared.lowering.Lowering.{Lowering}
use Rattle.gh_path.proofs.lower_body.first_loops.Given as goal

abbrev pub invariant-loop-statement : goal.invariant-loop-statement
invariant-loop-statement l = record {
  long : vec_len l.numbers ≡ l.statement-index;
  suits_next : (w : Lowering) → AllSuit w l.fn.first (statements_view l.statements)
      → AllSuit w l.number (statements_view (drop l.statement-index l.statements));
  suit : (w : Lowering) → AllSuit w l.fn.first (statements_view l.statements) →
      (k : ℕ) (d : Stmt) → k < l.statement-index
      → Suits w (get_or l.numbers.items k 0) (statement_of (get_or l.statements k d));
  sum : l.fn.first + length (all_loops (statements_view l.statements)) ≤ 65536 →
      l.number + length (all_loops (statements_view (drop l.statement-index l.statements)))
      ≡ l.fn.first + length (all_loops (statements_view l.statements));
  are : l.fn.first + length (all_loops (statements_view l.statements)) ≤ 65536 →
      l.numbers.items ++ first_loops l.number (drop l.statement-index l.statements)
      ≡ first_loops l.fn.first l.statements;
}

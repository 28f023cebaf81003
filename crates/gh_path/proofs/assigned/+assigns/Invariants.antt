use Rattle.std.proofs.Common.{◌≡◌, drop}
use Rattle.gh_ast.specs.Plain.{statements_view}
use Rattle.gh_path.specs.Terms.{some_assigns}
use Rattle.gh_path.proofs.assigned.+assigns.Given as goal

abbrev pub invariant-some_assigns-loop-statement : goal.invariant-some_assigns-loop-statement
invariant-some_assigns-loop-statement l =
    some_assigns (statements_view (drop l.statement-index l.statements)) l.name
    ≡ some_assigns (statements_view l.statements) l.name

use Rattle.std.proofs.Common.{◌≡◌, ◌++◌, filter, drop}
use Rattle.gh_ast.specs.Plain.{statements_view}
use Rattle.gh_path.specs.Terms.{some_assigns}
use Rattle.gh_session.proofs.essence.assigned.Given as goal

abbrev pub invariant-loop-variable : goal.invariant-loop-variable
invariant-loop-variable l =
    l.found.items ++ filter (some_assigns (statements_view l.body)) (drop l.variable-index l.variables)
    ≡ filter (some_assigns (statements_view l.body)) l.variables

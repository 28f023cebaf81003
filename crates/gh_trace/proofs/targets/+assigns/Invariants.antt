use Rattle.std.proofs.Common.{drop}
use Rattle.std.specs.Prelude.{◌↔◌}
use Rattle.gh_ast.specs.Plain.{statements_view}
use Rattle.gh_ast.specs.Programs.{SomeAssigns}
use Rattle.gh_trace.proofs.targets.+assigns.Given as goal

abbrev pub invariant-some_assigns-loop-statement : goal.invariant-some_assigns-loop-statement
invariant-some_assigns-loop-statement l =
    SomeAssigns (statements_view (drop l.statement-index l.statements)) l.name
    ↔ SomeAssigns (statements_view l.statements) l.name

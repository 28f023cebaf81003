-- A condition's way leads from a start of the procedure that it is of.
use Rattle.std.specs.Prelude.{slice_get, Contains}
use Rattle.std.proofs.Common.{subst}
use Rattle.gh_ast.specs.Plain.{Procedure, Program}
use Rattle.gh_ast.proofs.Lists.{one_value}
use Rattle.gh_path.specs.Graphs.{graph_from}
use Rattle.gh_path.specs.Paths.{Path}
use Rattle.gh_path.specs.Conditions.{Condition, IsCondition, IsOf}
use Rattle.gh_path.proofs.ListLemmas.{member}

pub its_declared : (P : Program) (proc : Procedure) (c : Condition) → IsOf P c proc → Contains P.procedures proc
its_declared P proc c of = member P.procedures c.procedure proc of

pub its_path : (P : Program) (proc : Procedure) (c : Condition) → IsCondition P c → IsOf P c proc
    → Path (graph_from P proc c.start) c.way.steps c.way.check
its_path P proc c is of =
    subst (λ (q : Procedure). Path (graph_from P q c.start) c.way.steps c.way.check)
    (one_value (slice_get P.procedures c.procedure) is.procedure proc is.of of) is.leads

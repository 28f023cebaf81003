use Rattle.std.proofs.Common.{[], ◌∷◌, List, take, map, arith, subst}
use Rattle.gh_ast.specs.Plain.{Procedure, procedure_of}
use Rattle.gh_types.specs.Checks.{ProcedureErrors}
use Rattle.gh_types.specs.Faults.{IsFirstIn, IsFirstOf}
use Rattle.gh_types.proofs.FirstLemmas.{first_append, first_one}
use Rattle.gh_types.proofs.TableLemmas.{map_more, map_all}
use Rattle.gh_types.proofs.procedures.in_each.Goals as goal

pub loop-own-preserved : goal.loop-own-preserved
loop-own-preserved c =
    let front = map procedure_of (take c.loop-own.own-index c.args.procedures.now) in
    let here = procedure_of c.own-item.result in
    let found : IsFirstOf (ProcedureErrors (map procedure_of c.args.procedures.now) here) c.in_ok-found.found =
    rw (← c.in_ok-scope.ensures.0, ← c.in_ok-scope.ensures.1) c.in_ok-found.ensures in
    rw (map_more procedure_of c.args.procedures.now c.loop-own.own-index c.own-item.result (omega arith) c.own-item.is)
    (first_append _ front (here ∷ []) _ _ _ c.earlier-first.ensures c.loop-own.invariant (first_one _ here _ found))

pub returns : goal.returns
returns c =
    subst (λ (qs : List Procedure). IsFirstIn (ProcedureErrors (map procedure_of c.args.procedures.now)) qs
    c.loop-own.first) (map_all procedure_of c.args.procedures.now c.loop-own.own-index (omega arith))
    c.loop-own.invariant

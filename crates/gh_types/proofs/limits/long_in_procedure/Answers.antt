use Rattle.std.proofs.Common.{[], ◌∷◌, map, subst}
use Rattle.std.specs.Prelude.{Some, None, sum}
use Rattle.gh_ast.specs.Plain.{assertion_of, procedure_of}
use Rattle.gh_ast.specs.Limits.{atoms, invariants_in_body}
use Rattle.gh_types.specs.LimitChecks.{FindsMany}
use Rattle.gh_types.proofs.LimitLemmas.{finds_left, finds_right}
use Rattle.gh_types.proofs.limits.long_in_procedure.Goals as goal

pub returns-in-Some : goal.returns-in-Some
returns-in-Some c =
    let q = procedure_of c.args.procedure.now in
    finds_left (atoms q.needs ∷ []) (sum (map atoms q.gives) ∷ map atoms (invariants_in_body q.body)) _
    c.in-Some.ensures

pub returns-in-Some-long_together : goal.returns-in-Some-long_together
returns-in-Some-long_together c =
    let q = procedure_of c.args.procedure.now in
    let ensured = subst (λ fs. FindsMany (sum (map atoms (map assertion_of fs)) ∷ [])
    (Some c.in-Some-long_together.count)) c.as_slice.ensures.value c.in-Some-long_together.ensures in
    finds_right (atoms q.needs ∷ []) (sum (map atoms q.gives) ∷ map atoms (invariants_in_body q.body)) _
    c.in_default.ensures (finds_left (sum (map atoms q.gives) ∷ []) (map atoms (invariants_in_body q.body)) _
    ensured)

pub returns : goal.returns
returns c =
    let q = procedure_of c.args.procedure.now in
    let ensured =
    subst (λ fs. FindsMany (sum (map atoms (map assertion_of fs)) ∷ []) None) c.as_slice.ensures.value
    c.in_default-long_together.ensures in
    finds_right (atoms q.needs ∷ []) (sum (map atoms q.gives) ∷ map atoms (invariants_in_body q.body)) _
    c.in_default.ensures
    (finds_right (sum (map atoms q.gives) ∷ []) (map atoms (invariants_in_body q.body)) _ ensured
    c.long_in_body.ensures)

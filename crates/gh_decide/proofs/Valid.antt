-- Where a condition has no counterexample, its check is passed.
use Rattle.std.specs.Prelude.{Contains, length}
use Rattle.std.proofs.Common.{refl, sym}
use Rattle.std.proofs.lemmas.Option.{slice_get_read}
use Rattle.gh_ast.specs.Plain.{Procedure, Program}
use Rattle.gh_assert.proofs.Proper.{met_proper}
use Rattle.gh_path.specs.Graphs.{meets_at, IsProcedureAt}
use Rattle.gh_path.specs.Conditions.{Condition, condition, course}
use Rattle.gh_path.proofs.Listed.{all_are_listed}
use Rattle.gh_trace.specs.Traces.{last_state}
use Rattle.gh_trace.proofs.Proper.{trace_proper, pass}
use Rattle.gh_decide.specs.Laws.{ValidPass, ListedIsGood}
use Rattle.gh_decide.proofs.Compose.{composition}

-- a procedure of the program has a number
at_place : (P : Program) (q : Procedure) → (is : Contains P.procedures q) → IsProcedureAt P is.0 q
at_place P q is = slice_get_read P.procedures (length P.procedures) is.0 q refl is.1 (sym is.2)

pub valid_pass : ValidPass
valid_pass P valid q is a there x met ss c path ys trace =
    let k : Condition = condition is.0 (course a (record { steps = ss; check = c })) in
    let one = (all_are_listed P k).1 (record { procedure = q; of = at_place P q is; begins = there; leads = path }) in
    pass P q c (last_state x ys) (trace_proper P q x ss ys trace (met_proper (meets_at q a) x.store x.heap met))
    (λ fails. valid k one q (at_place P q is) x ys (record { begins = met; leads = trace; fails = fails }))

pub listed_is_good : ListedIsGood
listed_is_good P typed valid = composition P typed (valid_pass P valid)

use Rattle.std.proofs.Common.{◌≡◌, None, sym, subst}
use Rattle.std.specs.Prelude.{slice_get}
use Rattle.gh_ast.specs.Plain.{procedure_of, program_of}
use Rattle.gh_ast.specs.Rules.{IsTyped}
use Rattle.gh_ast.specs.declared.Program as whole
use Rattle.gh_path.specs.Conditions.{IsOf}
use Rattle.gh_path.specs.Graphs.{IsProcedureAt}
use Rattle.gh_path.specs.Kept.{condition_of}
use Rattle.gh_trace.proofs.FirstRefuted.{has_procedure}
use Rattle.gh_session.specs.Views.{IsEssenceIn}
use Rattle.gh_session.proofs.essence.essence_of.Goals as goal

pub unreachable-requires : goal.unreachable-requires
unreachable-requires c =
    let r = c.args.condition.now in
    has_procedure (program_of c.args.typed.now) r c.requires
    (subst (λ (P : whole.Program). slice_get (program_of P).procedures r.procedure ≡ None)
    c.program-program.ensures.same c.in_default.ensures.none)

pub returns : goal.returns
returns c =
    let P = program_of c.args.typed.now in
    let r = c.args.condition.now in
    let proc = procedure_of c.in-Some.procedure.now in
    let e = c.in_ok-essence_in.field-0 in
    let same = c.program-program.ensures.same in
    let of : IsOf P (condition_of r) proc =
    subst (λ (Q : whole.Program). IsProcedureAt (program_of Q) r.procedure proc) same c.in-Some.ensures.some in
    let typed : IsTyped P =
    subst (λ (Q : whole.Program). IsTyped (program_of Q)) same c.program-program.ensures.typed in
    let told : IsEssenceIn P proc r e =
    subst (λ (Q : whole.Program). IsEssenceIn (program_of Q) proc r e) same c.in_ok-essence_in.ensures in
    record { typed = typed; one = c.requires; procedure = proc; of = of; is = sym told }

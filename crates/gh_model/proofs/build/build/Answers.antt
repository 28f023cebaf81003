use Rattle.std.proofs.Common.{◌∙◌, ap, subst, map, slice_get, arith}
use Rattle.std.proofs.lemmas.Result.{IfOk-weaker}
use Rattle.gh_ast.specs.Plain.{procedure_of, program_of}
use Rattle.gh_ast.specs.Programs.{variable_names}
use Rattle.gh_ast.specs.Rules.{IsTyped}
use Rattle.gh_ast.proofs.Lists.{one_value}
use Rattle.gh_ast.proofs.TypedPrograms.{variables_are_distinct}
use Rattle.gh_path.specs.Conditions.{IsOf}
use Rattle.gh_path.specs.Kept.{condition_of}
use Rattle.gh_path.proofs.Numbers.{one_is_scoped}
use Rattle.gh_symb.proofs.CountLemmas.{scoped_within, scoped_of}
use Rattle.gh_trace.specs.Kept.{drawn}
use Rattle.gh_trace.proofs.FirstRefuted.{condition_one}
use Rattle.gh_model.specs.KeptTraces.{states_in}
use Rattle.gh_model.proofs.paths.Ways.{its_declared}
use Rattle.gh_model.proofs.building.Traces.{are_built, built_is}
use Rattle.gh_model.proofs.build.build.Goals as goal

pub index-procedure-requires : goal.index-procedure-requires
index-procedure-requires c =
    let T = c.args.typed.now in
    let Q = c.program-program.result.now in
    let r = c.args.condition.now in
    let same = c.program-program.ensures.same in
    let typed : IsTyped (program_of T) = subst (λ Q. IsTyped (program_of Q)) same c.program-program.ensures.typed in
    let within = scoped_within T Q r same (one_is_scoped (program_of T) r typed c.requires.of) in
    omega (arith, within, Q.procedures.ok)

pub states-requires-clause-all : goal.states-requires-clause-all
states-requires-clause-all c =
    let T = c.args.typed.now in
    let P = program_of T in
    let r = c.args.condition.now in
    let same = c.program-program.ensures.same in
    let proc = procedure_of c.index-procedure.result.now in
    let typed : IsTyped P = subst (λ Q. IsTyped (program_of Q)) same c.program-program.ensures.typed in
    let of : IsOf P (condition_of r) proc =
    scoped_of T c.program-program.result.now r c.index-procedure.result.now same (one_is_scoped P r typed c.requires.of)
    c.index-procedure.ensures in
    (are_built P proc (condition_of r) c.args.symbolic.now c.args.structure.now typed (condition_one P r c.requires.of)
    of (c.requires.told proc of) c.requires.terms c.requires.versions).all

pub states-requires-clause-distinct : goal.states-requires-clause-distinct
states-requires-clause-distinct c =
    let T = c.args.typed.now in
    let P = program_of T in
    let r = c.args.condition.now in
    let same = c.program-program.ensures.same in
    let proc = procedure_of c.index-procedure.result.now in
    let typed : IsTyped P = subst (λ Q. IsTyped (program_of Q)) same c.program-program.ensures.typed in
    let of : IsOf P (condition_of r) proc =
    scoped_of T c.program-program.result.now r c.index-procedure.result.now same (one_is_scoped P r typed c.requires.of)
    c.index-procedure.ensures in
    variables_are_distinct P typed proc (its_declared P proc (condition_of r) of)

pub returns : goal.returns
returns c =
    let T = c.args.typed.now in
    let P = program_of T in
    let r = c.args.condition.now in
    let y = c.args.symbolic.now in
    let s = c.args.structure.now in
    let same = c.program-program.ensures.same in
    let proc = procedure_of c.index-procedure.result.now in
    let typed : IsTyped P = subst (λ Q. IsTyped (program_of Q)) same c.program-program.ensures.typed in
    let of : IsOf P (condition_of r) proc =
    scoped_of T c.program-program.result.now r c.index-procedure.result.now same (one_is_scoped P r typed c.requires.of)
    c.index-procedure.ensures in
    IfOk-weaker c.states.result _ _ (λ t w q of'.
    ap (map drawn) w
    ∙ ap (λ z. map drawn (states_in s (variable_names z) 0 y.steps.items y.bindings.items))
    (one_value (slice_get P.procedures r.procedure) proc q of of')
    ∙ built_is P q (condition_of r) y s typed (condition_one P r c.requires.of) of' (c.requires.told q of')
    c.requires.terms c.requires.versions
    ) c.states.ensures

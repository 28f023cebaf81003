use Rattle.std.proofs.Common.{◌∙◌, length, ap, sym, subst}
use Rattle.std.specs.Prelude.{Some, None}
use Rattle.gh_ast.specs.Plain.{program_of}
use Rattle.gh_path.specs.Answers.{IsNumbered}
use Rattle.gh_path.specs.Conditions.{conditions}
use Rattle.gh_path.specs.Kept.{IsOne}
use Rattle.gh_trace.proofs.FirstRefuted.{numbered_one}
use Rattle.gh_top.specs.Smts.{ReportsScript}
use Rattle.gh_top.proofs.SmtLemmas.{script_replies, none_replies}
use Rattle.gh_top.proofs.smt.smt.Goals as goal

pub script_report-requires-clause-one : goal.script_report-requires-clause-one
script_report-requires-clause-one c =
    let P = program_of c.args.admitted.now in
    let found : IsNumbered P c.args.number (Some c.in-Some.condition) =
    subst (λ proc. IsNumbered (program_of proc) c.args.number (Some c.in-Some.condition))
    c.conditions-conditions.ensures
    (subst (λ o. IsNumbered (program_of c.conditions-conditions.result.now) c.args.number o) c.in-Some.is
    c.in_ok-condition.ensures) in
    subst (λ proc. IsOne (program_of proc) c.in-Some.condition) (sym c.typed-typed.ensures.same)
    (numbered_one P c.args.number c.in-Some.condition found)

pub returns-in_ok-script_report-in-Some : goal.returns-in_ok-script_report-in-Some
returns-in_ok-script_report-in-Some c =
    let P = program_of c.args.admitted.now in
    let r = c.in_ok-script_report-in-Some.field-0 in
    let found : IsNumbered P c.args.number (Some c.in-Some.condition) =
    subst (λ proc. IsNumbered (program_of proc) c.args.number (Some c.in-Some.condition))
    c.conditions-conditions.ensures
    (subst (λ o. IsNumbered (program_of c.conditions-conditions.result.now) c.args.number o) c.in-Some.is
    c.in_ok-condition.ensures) in
    script_replies P c.args.number c.in-Some.condition r.status r.text found
    (subst (λ proc. ReportsScript (program_of proc) c.in-Some.condition r.status r.text) c.typed-typed.ensures.same
    c.in_ok-script_report-in-Some.ensures)

pub returns-in_ok-unnumbered-in-None : goal.returns-in_ok-unnumbered-in-None
returns-in_ok-unnumbered-in-None c =
    let P = program_of c.args.admitted.now in
    let r = c.in_ok-unnumbered-in-None.field-0 in
    let found : IsNumbered P c.args.number None =
    subst (λ proc. IsNumbered (program_of proc) c.args.number None) c.conditions-conditions.ensures
    (subst (λ o. IsNumbered (program_of c.conditions-conditions.result.now) c.args.number o) c.in-None.is
    c.in_ok-condition.ensures) in
    none_replies P c.args.number c.count.result r.status r.text c.requires found
    (c.count.ensures ∙ ap (λ proc. length (conditions (program_of proc))) c.conditions-conditions.ensures)
    c.in_ok-unnumbered-in-None.ensures.status
    c.in_ok-unnumbered-in-None.ensures.text

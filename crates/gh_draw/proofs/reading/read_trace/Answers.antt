use Rattle.std.proofs.Common.{◌∙◌, sym, ap, subst, Some, inl, inr, arith}
use Rattle.std.specs.Prelude.{option_map}
use Rattle.gh_ast.specs.Plain.{program_of}
use Rattle.gh_path.specs.Answers.{IsNumbered}
use Rattle.gh_draw.specs.Reading.{IsFrontRead, ShowsStates}
use Rattle.gh_draw.proofs.Whole.{AreNamesFor, within, names_for, names_distinct, trace_no_states, trace_no_more}
use Rattle.gh_draw.proofs.Whole.{trace_whole, is_nothing, is_something}
use Rattle.gh_draw.proofs.reading.read_trace.Goals as goal

pub index-procedure-requires : goal.index-procedure-requires
index-procedure-requires c =
    let Q = c.program.result.now in
    let n = c.args.number in
    let found = subst (λ o. IsNumbered (program_of c.args.conditions.now) n o) c.in-Some.is c.in_ok-condition.ensures in
    let asked =
    subst (λ p. IsNumbered p n (Some c.in-Some.condition)) (c.requires ∙ sym (ap program_of c.program.ensures.same))
    found in
    let low = within Q n c.in-Some.condition asked in
    omega (arith, low, Q.procedures.ok)

pub read_states-requires : goal.read_states-requires
read_states-requires c =
    let asked =
    subst (λ p. IsNumbered p c.args.number (Some c.in-Some.condition))
    (c.requires ∙ sym (ap program_of c.program.ensures.same))
    (subst (λ o. IsNumbered (program_of c.args.conditions.now) c.args.number o) c.in-Some.is
    c.in_ok-condition.ensures) in
    let names =
    names_for c.program.result.now c.args.number c.in-Some.condition c.index-procedure.result.now
    c.as_slice.result.now asked c.index-procedure.ensures (c.as_slice.ensures.value ∙ c.in_ok-names.ensures) in
    names_distinct (program_of c.program.result.now) c.args.number c.as_slice.result.now c.program.ensures.typed names

pub returns-in_default-2 : goal.returns-in_default-2
returns-in_default-2 c =
    let asked =
    subst (λ p. IsNumbered p c.args.number (Some c.in-Some.condition))
    (c.requires ∙ sym (ap program_of c.program.ensures.same))
    (subst (λ o. IsNumbered (program_of c.args.conditions.now) c.args.number o) c.in-Some.is
    c.in_ok-condition.ensures) in
    let names =
    names_for c.program.result.now c.args.number c.in-Some.condition c.index-procedure.result.now
    c.as_slice.result.now asked c.index-procedure.ensures (c.as_slice.ensures.value ∙ c.in_ok-names.ensures) in
    trace_no_states (program_of c.args.typed.now) c.args.number c.as_slice.result.now c.args.cursor.now.text.now
    c.read_states.new.cursor.text.now
    (subst (λ p. AreNamesFor (program_of p) c.args.number c.as_slice.result.now) c.program.ensures.same names)
    (subst (λ o. IsFrontRead (ShowsStates c.as_slice.result.now 0) c.args.cursor.now.text.now
    c.read_states.new.cursor.text.now (option_map (λ v. v.items) o)) c.in_default-2.is c.in_ok-states.ensures)

pub returns-then-is_empty : goal.returns-then-is_empty
returns-then-is_empty c =
    let asked =
    subst (λ p. IsNumbered p c.args.number (Some c.in-Some.condition))
    (c.requires ∙ sym (ap program_of c.program.ensures.same))
    (subst (λ o. IsNumbered (program_of c.args.conditions.now) c.args.number o) c.in-Some.is
    c.in_ok-condition.ensures) in
    let names =
    names_for c.program.result.now c.args.number c.in-Some.condition c.index-procedure.result.now
    c.as_slice.result.now asked c.index-procedure.ensures (c.as_slice.ensures.value ∙ c.in_ok-names.ensures) in
    let shown = subst (λ o. IsFrontRead (ShowsStates c.as_slice.result.now 0) c.args.cursor.now.text.now
    c.read_states.new.cursor.text.now (option_map (λ v. v.items) o)) c.in-Some-2.is c.in_ok-states.ensures in
    trace_no_more (program_of c.args.typed.now) c.args.number c.as_slice.result.now c.args.cursor.now.text.now
    c.read_states.new.cursor.text.now c.in-Some-2.states.items
    (subst (λ p. AreNamesFor (program_of p) c.args.number c.as_slice.result.now) c.program.ensures.same names)
    shown (inl (sym c.as_slice-2.ensures.value ∙ is_nothing c.as_slice-2.result.now c.if-is_empty.ensures))

pub returns-then-not-is_empty : goal.returns-then-not-is_empty
returns-then-not-is_empty c =
    let asked =
    subst (λ p. IsNumbered p c.args.number (Some c.in-Some.condition))
    (c.requires ∙ sym (ap program_of c.program.ensures.same))
    (subst (λ o. IsNumbered (program_of c.args.conditions.now) c.args.number o) c.in-Some.is
    c.in_ok-condition.ensures) in
    let names =
    names_for c.program.result.now c.args.number c.in-Some.condition c.index-procedure.result.now
    c.as_slice.result.now asked c.index-procedure.ensures (c.as_slice.ensures.value ∙ c.in_ok-names.ensures) in
    let shown = subst (λ o. IsFrontRead (ShowsStates c.as_slice.result.now 0) c.args.cursor.now.text.now
    c.read_states.new.cursor.text.now (option_map (λ v. v.items) o)) c.in-Some-2.is c.in_ok-states.ensures in
    trace_no_more (program_of c.args.typed.now) c.args.number c.as_slice.result.now c.args.cursor.now.text.now
    c.read_states.new.cursor.text.now c.in-Some-2.states.items
    (subst (λ p. AreNamesFor (program_of p) c.args.number c.as_slice.result.now) c.program.ensures.same names)
    shown (inr (is_something c.read_states.new.cursor.text.now c.if-not-is_empty.ensures))

pub returns : goal.returns
returns c =
    let asked =
    subst (λ p. IsNumbered p c.args.number (Some c.in-Some.condition))
    (c.requires ∙ sym (ap program_of c.program.ensures.same))
    (subst (λ o. IsNumbered (program_of c.args.conditions.now) c.args.number o) c.in-Some.is
    c.in_ok-condition.ensures) in
    let names =
    names_for c.program.result.now c.args.number c.in-Some.condition c.index-procedure.result.now
    c.as_slice.result.now asked c.index-procedure.ensures (c.as_slice.ensures.value ∙ c.in_ok-names.ensures) in
    let shown = subst (λ o. IsFrontRead (ShowsStates c.as_slice.result.now 0) c.args.cursor.now.text.now
    c.read_states.new.cursor.text.now (option_map (λ v. v.items) o)) c.in-Some-2.is c.in_ok-states.ensures in
    trace_whole (program_of c.args.typed.now) c.args.number c.as_slice.result.now c.args.cursor.now.text.now
    c.read_states.new.cursor.text.now c.in-Some-2.states.items
    (subst (λ p. AreNamesFor (program_of p) c.args.number c.as_slice.result.now) c.program.ensures.same names)
    shown (λ e. is_something c.as_slice-2.result.now c.if-is_empty.ensures (c.as_slice-2.ensures.value ∙ e))
    (is_nothing c.read_states.new.cursor.text.now c.if-not-is_empty.ensures)

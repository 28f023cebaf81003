use Rattle.std.proofs.Common.{sym, ap, subst, length, Bool, arith}
use Rattle.gh_ast.specs.Programs.{Name}
use Rattle.gh_session.specs.declared.edits.Edit.{Edit}
use Rattle.gh_session.specs.Lines.{IsSeparator}
use Rattle.gh_session.specs.Parts.{IsFirstPart}
use Rattle.gh_session.proofs.PieceLemmas.{is_bad, one_more}
use Rattle.gh_session.proofs.reading.read_session.Goals as goal

pub returns-in_default-clause-refused : goal.returns-in_default-clause-refused
returns-in_default-clause-refused c =
    let none : (asks : Bool) (n : Name) → IsSeparator c.split_at.result.0.now asks n → ⊥ =
    rw c.in_default.is at c.in_ok-name.ensures.none in
    is_bad c.args.text.now c.first_part-first.result.text.now c.loop-rest.edits.items c.loop-rest.number
    c.loop-rest.rest.now c.line_end.result c.loop-rest.invariant c.line_end.ensures.first
    (λ asks n s. none asks n (subst (λ l. IsSeparator l asks n) (sym c.split_at.ensures.front) s))

pub loop-rest-preserved : goal.loop-rest-preserved
loop-rest-preserved c =
    let e : Edit = record { name = c.in-Some.field-0.name; asks = c.in-Some.field-0.asks; text = c.in_ok-text.text } in
    let separated : IsSeparator c.split_at.result.0.now c.in-Some.field-0.asks c.in-Some.field-0.name =
    rw c.in-Some.is at c.in_ok-name.ensures.some in
    let count = ap length c.as_slice.ensures.value in
    let before = c.loop-rest.invariant in
    rw c.in_ok-push.ensures.items
    (one_more c.args.text.now c.first_part-first.result.text.now c.loop-rest.edits.items c.loop-rest.number
    c.loop-rest.rest.now c.line_end.result e c.first_part-part.result before c.line_end.ensures.first
    c.line_end.ensures.some c.line_end.ensures.within
    (subst (λ l. IsSeparator l c.in-Some.field-0.asks c.in-Some.field-0.name) c.split_at.ensures.front separated)
    (subst (λ xs. IsFirstPart xs c.first_part-part.result) c.split_at.ensures.back c.first_part-part.ensures)
    c.in_ok-text.ensures (omega (arith, before.read.few, c.if-as_slice-eq-MOST_EDITS.false, count)))

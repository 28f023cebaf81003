use Rattle.std.proofs.Common.{refl}
use Rattle.gh_ast.specs.Plain.{statements_view}
use Rattle.gh_path.specs.Graphs.{all_loops}
use Rattle.gh_symb.proofs.WhileLemmas.{first_part, second_part, here, inside, loops-If, loops-While, whole, found_among}
use Rattle.gh_symb.proofs.loops.+while_in.Goals as goal

pub while_among-returns-in-Ok : goal.while_among-returns-in-Ok
while_among-returns-in-Ok t c =
    found_among c.args.statements.now c.loop-statement.statement-index c.statement-item.result c.args.number
    c.loop-statement.left c.in-Ok.round
    c.loop-statement-test.true c.statement-item.is c.loop-statement.invariant c.in-Ok.ensures

pub while_in-returns-then-number-eq0 : goal.while_in-returns-then-number-eq0
while_in-returns-then-number-eq0 t c =
    let w = c.in-While in
    rw (w.is, loops-While w.span w.test w.invariant w.body)
    (here (whole w.span w.test w.invariant w.body) (all_loops (statements_view w.body.statements.items)) c.args.number _
    c.if-number-eq0.true (record { invariant = refl; body = refl }))

pub while_in-returns-else-number-eq0 : goal.while_in-returns-else-number-eq0
while_in-returns-else-number-eq0 t c =
    let w = c.in-While in
    rw (w.is, loops-While w.span w.test w.invariant w.body)
    (inside (whole w.span w.test w.invariant w.body) (all_loops (statements_view w.body.statements.items)) c.args.number
    c.while_among-in-While.result c.if-number-eq0.false
    (rw c.as_slice-in-While.ensures.value at c.while_among-in-While.ensures))

pub while_in-returns-in-Ok : goal.while_in-returns-in-Ok
while_in-returns-in-Ok t c =
    let w = c.in-If in
    rw (w.is, loops-If w.test w.taken w.otherwise)
    (first_part (all_loops (statements_view w.taken.statements.items))
    (all_loops (statements_view w.otherwise.statements.items)) c.args.number c.in-Ok.round
    (rw c.as_slice.ensures.value at c.in-Ok.ensures))

pub while_in-returns-in-Err : goal.while_in-returns-in-Err
while_in-returns-in-Err t c =
    let w = c.in-If in
    rw (w.is, loops-If w.test w.taken w.otherwise)
    (second_part (all_loops (statements_view w.taken.statements.items))
    (all_loops (statements_view w.otherwise.statements.items)) c.args.number c.in-Err.left
    c.while_among-in-Err.result
    (rw c.as_slice.ensures.value at c.in-Err.ensures)
    (rw c.as_slice-in-Err.ensures.value at c.while_among-in-Err.ensures))

use Rattle.std.proofs.Common.{◌+◌, drop, refl, sym, ◌∙◌, subst}
use Rattle.std.proofs.lemmas.List.{drop_all}
use Rattle.gh_assert.specs.declared.heap.Cell.{Cell}
use Rattle.gh_trace.proofs.Besides.{BesideSoFar, beside_begins, framed_turn, other_turn, differing_turn, beside_ends}
use Rattle.gh_trace.proofs.Besides.{beside_gone}
use Rattle.gh_trace.proofs.heaps.cells_beside.Goals as goal
use Rattle.gh_trace.proofs.heaps.cells_beside.Goals.{in-None+in_ok-put-in-None, in-Some+else-to-cell}

abbrev blank : Cell
blank = record { at = 0; to = 0 }

pub loop-cell-init : goal.loop-cell-init
loop-cell-init c =
    beside_begins c.args.heap.now c.args.frame.now.1 c.new-other.result c.args.frame.now.1 c.cells-cell-items.result.now
    c.cells-cell-items.ensures.entries c.cells-cell-items.ensures.cells c.new-other.ensures refl

pub loop-cell-preserved : goal.loop-cell-preserved
loop-cell-preserved c = elim c.match-take.branch [
  | in-None+in_ok-put-in-None w ↦
      other_turn c.args.heap.now c.args.frame.now.1 c.cells-cell-items.result.now c.loop-cell.cell-index blank
      c.loop-cell.other c.match-take.other c.loop-cell.frame.1 c.take.new.self.1 c.take.result c.loop-cell-test.true
      c.loop-cell.invariant c.take.ensures.content w.in-None.is (w.other-is ∙ w.in_ok-put-in-None.ensures.ok)
      c.take.ensures.rest
  | in-Some+else-to-cell w ↦
      subst (λ o. BesideSoFar c.args.heap.now c.args.frame.now.1
      (drop (c.loop-cell.cell-index + 1) c.cells-cell-items.result.now) o c.take.new.self.1) (sym w.other-is)
      (framed_turn c.args.heap.now c.args.frame.now.1 c.cells-cell-items.result.now c.loop-cell.cell-index blank
      c.loop-cell.other c.loop-cell.frame.1 c.take.new.self.1 c.take.result w.in-Some.to c.loop-cell-test.true
      c.loop-cell.invariant c.take.ensures.content w.in-Some.is w.if-to-cell.false c.take.ensures.rest)
]

pub returns-in-Some-clause-none : goal.returns-in-Some-clause-none
returns-in-Some-clause-none c =
    differing_turn c.args.heap.now c.args.frame.now.1 c.cells-cell-items.result.now c.loop-cell.cell-index blank
    c.loop-cell.other c.loop-cell.frame.1 c.take.result c.in-Some.to c.loop-cell-test.true
    c.loop-cell.invariant c.take.ensures.content c.in-Some.is c.if-to-cell.true

pub returns-then-not-is_empty-clause-none : goal.returns-then-not-is_empty-clause-none
returns-then-not-is_empty-clause-none c x split =
    let end = subst (λ cells. BesideSoFar c.args.heap.now c.args.frame.now.1 cells c.loop-cell.other
    c.loop-cell.frame.1) (drop_all c.loop-cell.cell-index c.cells-cell-items.result.now c.loop-cell-test.false)
    c.loop-cell.invariant in
    let empty =
    c.is_empty.ensures.1 (beside_gone c.args.heap.now c.args.frame.now.1 c.loop-cell.other c.loop-cell.frame.1 end x
    split) in
    absurd cc

pub returns-clause-found : goal.returns-clause-found
returns-clause-found c =
    let end = subst (λ cells. BesideSoFar c.args.heap.now c.args.frame.now.1 cells c.loop-cell.other
    c.loop-cell.frame.1) (drop_all c.loop-cell.cell-index c.cells-cell-items.result.now c.loop-cell-test.false)
    c.loop-cell.invariant in
    beside_ends c.args.heap.now c.args.frame.now.1 c.loop-cell.other c.loop-cell.frame.1 end
    (c.is_empty.ensures.0 c.if-not-is_empty.false)

use Rattle.std.proofs.Common.{subst, sym, ◌∙◌}
use Rattle.std.proofs.lemmas.List.{drop_all}
use Rattle.gh_assert.specs.declared.heap.Cell.{Cell}
use Rattle.gh_trace.proofs.Lefts.{SameSoFar, same_turn, same_ends}
use Rattle.gh_trace.proofs.heaps.is_same_rest.Goals as goal

abbrev blank : Cell
blank = record { at = 0; to = 0 }

pub loop-cell-preserved : goal.loop-cell-preserved
loop-cell-preserved c =
    same_turn c.args.one.now.1 c.args.other.now.1 c.args.cells.now c.loop-cell.cell-index blank c.loop-cell.one.1
    c.loop-cell.other.1 c.take.new.self.1 c.take-in-loop-cell.new.self.1 c.take.result c.take-in-loop-cell.result
    c.loop-cell-test.true c.loop-cell.invariant c.take.ensures.content c.take-in-loop-cell.ensures.content
    (sym c.ne.ensures ∙ c.if-ne.false) c.take.ensures.rest c.take-in-loop-cell.ensures.rest

pub returns : goal.returns
returns c =
    let end = same_ends c.args.one.now.1 c.args.other.now.1 c.loop-cell.one.1 c.loop-cell.other.1
    (subst (λ cells. SameSoFar c.args.one.now.1 c.args.other.now.1 cells c.loop-cell.one.1 c.loop-cell.other.1)
    (drop_all c.loop-cell.cell-index c.args.cells.now c.loop-cell-test.false) c.loop-cell.invariant) in
    (λ t. end.0 (c.is_empty.ensures.0 t), λ e. c.is_empty.ensures.1 (end.1 e))

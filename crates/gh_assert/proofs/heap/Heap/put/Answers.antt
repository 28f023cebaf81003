use Rattle.std.proofs.Common.{ap, ◌∙◌, subst}
use Rattle.std.specs.FinMap.{from_sorted}
use Rattle.gh_assert.specs.Cells.{pairs, IsHere, IsGap}
use Rattle.gh_assert.proofs.CellLists.{cells_here, cells_gap, map_here, map_gap}
use Rattle.gh_assert.proofs.heap.Heap.put.Goals as goal

pub invariant_of-self : goal.invariant_of-self
invariant_of-self c =
    let i = c.in-Ok.i in
    cells_here c.self.inside.cells.items c.args.at c.args.to i c.requires c.self.invariant
    (subst (λ cs. IsHere cs c.args.at i) c.as_slice.ensures.value c.in-Ok.ensures)

pub invariant_of-self-in-Continue-1 : goal.invariant_of-self-in-Continue-1
invariant_of-self-in-Continue-1 c =
    let i = c.in-Err.i in
    rw c.in_ok-insert-in-Err.ensures.items
    (cells_gap c.self.inside.cells.items c.args.at c.args.to i c.requires c.self.invariant
    (subst (λ cs. IsGap cs c.args.at i) c.as_slice.ensures.value c.in-Err.ensures))

pub returns-in-Ok-clause-ok : goal.returns-in-Ok-clause-ok
returns-in-Ok-clause-ok c =
    let i = c.in-Ok.i in
    map_here c.self.inside.cells.items c.args.at c.args.to i c.args.self.now c.self.view_is c.self.invariant
    (subst (λ cs. IsHere cs c.args.at i) c.as_slice.ensures.value c.in-Ok.ensures)

pub returns-in_ok-insert-in-Err-clause-ok : goal.returns-in_ok-insert-in-Err-clause-ok
returns-in_ok-insert-in-Err-clause-ok c =
    let i = c.in-Err.i in
    ap (λ cs. from_sorted (pairs cs)) c.in_ok-insert-in-Err.ensures.items
    ∙ map_gap c.self.inside.cells.items c.args.at c.args.to i c.args.self.now c.self.view_is c.self.invariant
    (subst (λ cs. IsGap cs c.args.at i) c.as_slice.ensures.value c.in-Err.ensures)

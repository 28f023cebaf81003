use Rattle.std.proofs.Common.{ap, ◌∙◌, sym, subst, Some}
use Rattle.gh_assert.specs.Cells.{IsHere, IsGap}
use Rattle.gh_assert.proofs.CellLists.{get_here, get_gap}
use Rattle.gh_assert.proofs.heap.Heap.get.Goals as goal

pub returns-in-Ok : goal.returns-in-Ok
returns-in-Ok c =
    let i = c.in-Ok.i in
    let h = subst (λ cs. IsHere cs c.args.at i) c.as_slice.ensures.value c.in-Ok.ensures in
    ap (λ x. Some x.to) c.index.ensures
    ∙ sym (get_here c.self.inside.cells.items c.args.at i c.args.self.now c.index.result.now c.self.view_is
    c.self.invariant h)

pub returns-in-Err : goal.returns-in-Err
returns-in-Err c =
    let i = c.in-Err.field-0 in
    let h = subst (λ cs. IsGap cs c.args.at i) c.as_slice.ensures.value c.in-Err.ensures in
    sym (get_gap c.self.inside.cells.items c.args.at i c.args.self.now c.self.view_is c.self.invariant h)

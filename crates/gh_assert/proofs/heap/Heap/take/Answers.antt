use Rattle.std.proofs.Common.{ap, ◌∙◌, sym, subst, Some}
use Rattle.gh_assert.specs.Cells.{heap_of, AreCells, IsHere, IsGap}
use Rattle.gh_assert.proofs.CellLists.{get_here, get_gap, cells_taken, map_taken, map_untaken}
use Rattle.gh_assert.proofs.heap.Heap.take.Goals as goal

pub invariant_of-self : goal.invariant_of-self
invariant_of-self c =
    let i = c.in-Ok.i in
    subst AreCells (sym c.remove.ensures.items)
    (cells_taken c.self.inside.cells.items i c.args.at c.self.invariant
    (subst (λ cs. IsHere cs c.args.at i) c.as_slice.ensures.value c.in-Ok.ensures))

pub returns-in-Ok-clause-content : goal.returns-in-Ok-clause-content
returns-in-Ok-clause-content c =
    let i = c.in-Ok.i in
    let here = subst (λ cs. IsHere cs c.args.at i) c.as_slice.ensures.value c.in-Ok.ensures in
    ap (λ x. Some x.to) c.remove.ensures.value
    ∙ sym (get_here c.self.inside.cells.items c.args.at i c.args.self.now c.remove.result c.self.view_is
    c.self.invariant here)

pub returns-in-Ok-clause-rest : goal.returns-in-Ok-clause-rest
returns-in-Ok-clause-rest c =
    let i = c.in-Ok.i in
    let here = subst (λ cs. IsHere cs c.args.at i) c.as_slice.ensures.value c.in-Ok.ensures in
    ap heap_of c.remove.ensures.items
    ∙ map_taken c.self.inside.cells.items i c.args.at c.args.self.now c.self.view_is c.self.invariant here

pub returns-in-Err-clause-content : goal.returns-in-Err-clause-content
returns-in-Err-clause-content c =
    let i = c.in-Err.field-0 in
    sym (get_gap c.self.inside.cells.items c.args.at i c.args.self.now c.self.view_is c.self.invariant
    (subst (λ cs. IsGap cs c.args.at i) c.as_slice.ensures.value c.in-Err.ensures))

pub returns-in-Err-clause-rest : goal.returns-in-Err-clause-rest
returns-in-Err-clause-rest c =
    let i = c.in-Err.field-0 in
    map_untaken c.args.self.now c.args.at
    (get_gap c.self.inside.cells.items c.args.at i c.args.self.now c.self.view_is c.self.invariant
    (subst (λ cs. IsGap cs c.args.at i) c.as_slice.ensures.value c.in-Err.ensures))

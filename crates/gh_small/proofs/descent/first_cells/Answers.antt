use Rattle.std.proofs.Common.{◌≡◌, length, ap, ◌∙◌, arith}
use Rattle.std.specs.FinMap.{len}
use Rattle.gh_assert.specs.Heaps.{Heap}
use Rattle.gh_base.specs.Structures.{Tables}
use Rattle.gh_small.specs.Models.{first_heap}
use Rattle.gh_small.proofs.DescentLemmas.{few_cells, cells_fit, as_many}
use Rattle.gh_small.proofs.descent.first_cells.Goals as goal

pub returns-clause-count : goal.returns-clause-count
returns-clause-count c =
    as_many c.cells.result.now c.in_ok-heap.heap c.cells.ensures.entries ∙ ap (λ (h : Heap). len h) c.in_ok-heap.ensures

pub overflow_cast-result : goal.overflow_cast-result
overflow_cast-result c =
    let s : Tables = c.args.structure.now in
    let count : length c.cells.result.now ≡ len (first_heap s) =
    as_many c.cells.result.now c.in_ok-heap.heap c.cells.ensures.entries
    ∙ ap (λ (h : Heap). len h) c.in_ok-heap.ensures in
    omega (arith, count, cells_fit s c.sizes-sizes.ensures.valid, c.terms-terms.type_inv, c.terms-terms.ensures)

pub returns-clause-few : goal.returns-clause-few
returns-clause-few c =
    let s : Tables = c.args.structure.now in
    let count : length c.cells.result.now ≡ len (first_heap s) =
    as_many c.cells.result.now c.in_ok-heap.heap c.cells.ensures.entries
    ∙ ap (λ (h : Heap). len h) c.in_ok-heap.ensures in
    omega (arith, count, few_cells s c.sizes-sizes.ensures.valid)

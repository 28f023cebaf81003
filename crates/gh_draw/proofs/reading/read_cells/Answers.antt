use Rattle.std.proofs.Common.{◌≡◌, ◌∙◌, sym, subst, codes}
use Rattle.gh_draw.specs.Reading.{IsFrontRead, ShowsCellAbove}
use Rattle.gh_draw.proofs.Reader.{HeapGoes, heap_begin, heap_more, cells_missing, cells_end, word_missing, word_taken}
use Rattle.gh_draw.proofs.Reader.{missing_stays}
use Rattle.gh_draw.proofs.reading.read_cells.Goals as goal

pub cells-init : goal.cells-init
cells-init c = heap_begin c.args.cursor.now.text.now c.new-heap.result c.new-heap.ensures

pub returns-in_default : goal.returns-in_default
returns-in_default c =
    let stays =
    missing_stays (c.take.new.self.text.now ≡ c.cells.cursor.text.now) c.take.result c.cells-test.ensures
    c.take.ensures.stays in
    let none =
    word_missing (codes "\n") c.cells.cursor.text.now c.take.new.self.text.now c.take.result c.take.ensures.read
    c.cells-test.ensures in
    let goes =
    subst (λ z. HeapGoes c.cells.low z c.args.cursor.now.text.now c.cells.heap) (sym stays) c.cells.invariant in
    cells_missing c.cells.low c.take.new.self.text.now c.args.cursor.now.text.now c.read_cell.new.cursor.text.now
    c.cells.heap goes.goes (λ r e. none tt r (sym stays ∙ e))
    (subst (λ o. IsFrontRead (ShowsCellAbove c.cells.low) c.take.new.self.text.now c.read_cell.new.cursor.text.now o)
    c.in_default.is c.read_cell.ensures)

pub cells-preserved : goal.cells-preserved
cells-preserved c =
    let stays =
    missing_stays (c.take.new.self.text.now ≡ c.cells.cursor.text.now) c.take.result c.cells-test.ensures
    c.take.ensures.stays in
    let none =
    word_missing (codes "\n") c.cells.cursor.text.now c.take.new.self.text.now c.take.result c.take.ensures.read
    c.cells-test.ensures in
    let goes =
    subst (λ z. HeapGoes c.cells.low z c.args.cursor.now.text.now c.cells.heap) (sym stays) c.cells.invariant in
    heap_more c.cells.low c.in-Some.at c.in-Some.to c.take.new.self.text.now c.read_cell.new.cursor.text.now
    c.args.cursor.now.text.now c.cells.heap c.put.new.self goes (λ r e. none tt r (sym stays ∙ e))
    c.in-Some.ensures c.in_ok-put.ensures.ok

pub returns : goal.returns
returns c =
    cells_end c.cells.low c.cells.cursor.text.now c.args.cursor.now.text.now c.take.new.self.text.now c.cells.heap
    c.cells.invariant.goes
    (word_taken (codes "\n") c.cells.cursor.text.now c.take.new.self.text.now c.take.result c.take.ensures.read
    c.cells-test.ensures)

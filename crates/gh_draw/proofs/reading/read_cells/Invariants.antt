use Rattle.std.proofs.Common.{length}
use Rattle.gh_draw.proofs.Reader.{HeapGoes}
use Rattle.gh_draw.proofs.reading.read_cells.Given as goal

abbrev pub invariant-cells : goal.invariant-cells
invariant-cells l = HeapGoes l.low l.cursor.text.now l.initial.cursor.text.now l.heap

abbrev pub decreases-cells : goal.decreases-cells
decreases-cells l = length l.cursor.text.now

use Rattle.std.proofs.Common.{◌+◌, ◌-◌, ◌/◌, arith, Fits-le, Fits-lit, w32}
use Rattle.gh_run.proofs.Gaps.{gap_above, gap_below, gap_found, count_cells}
use Rattle.gh_run.proofs.free.least_free.Goals as goal

pub search-preserved-then-cells-middle : goal.search-preserved-then-cells-middle
search-preserved-then-cells-middle c =
    let m = c.search.low + (c.search.high - c.search.low) / 2 in
    gap_above c.cells-cells.result.now c.cells-cells.ensures.cells c.search.low c.search.high m _ c.search.invariant
    (omega arith) (omega arith) c.if-cells-middle.true

pub search-preserved : goal.search-preserved
search-preserved c =
    let m = c.search.low + (c.search.high - c.search.low) / 2 in
    gap_below c.cells-cells.result.now c.cells-cells.ensures.cells c.search.low c.search.high m _ c.search.invariant
    (omega arith) (omega arith) c.if-cells-middle.false

pub overflow_cast-result : goal.overflow_cast-result
overflow_cast-result c =
    let count = count_cells c.args.heap.now c.cells-cells.result.now c.cells-cells.ensures.entries in
    Fits-le (omega (arith, count, c.requires, c.search.invariant.order, c.search.invariant.within))
    (Fits-lit {w = w32} {n = 4294967295} tt)

pub returns : goal.returns
returns c =
    gap_found c.args.heap.now c.cells-cells.result.now c.search.low c.search.high c.cells-cells.ensures.entries
    c.cells-cells.ensures.cells c.search.invariant c.search-test.false

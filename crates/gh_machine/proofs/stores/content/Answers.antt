use Rattle.gh_machine.proofs.Begun.{null_is_free, some_not_null}
use Rattle.gh_machine.proofs.stores.content.Goals as goal

pub returns-clause-not_null : goal.returns-clause-not_null
returns-clause-not_null c =
    some_not_null c.args.heap.now c.args.at c.get.result c.get.ensures
    (null_is_free c.args.heap.now c.cells-cells.result.now c.cells-cells.ensures.entries c.cells-cells.ensures.cells)

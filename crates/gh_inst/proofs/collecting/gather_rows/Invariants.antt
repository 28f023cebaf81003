use Rattle.std.proofs.Common.{◌-◌, All, take}
use Rattle.gh_base.specs.Structures.{interpretation_of}
use Rattle.gh_inst.specs.Table.{table}
use Rattle.gh_inst.specs.Collecting.{Gathers, GoesUp, RowHolds, IsNamed, place}
use Rattle.gh_inst.proofs.collecting.gather_rows.Given as goal

abbrev pub invariant-loop-number : goal.invariant-loop-number
invariant-loop-number l = record {
  gathers : Gathers l.structure.sizes (interpretation_of l.structure) l.fn.found.items l.found.items
      (All (RowHolds l.structure.sizes (interpretation_of l.structure) l.version) (take (l.number - 1) table));
  named : All (IsNamed l.structure.sizes (interpretation_of l.structure) l.version l.found.items)
      (take (l.number - 1) table);
  up : GoesUp (place l.version 0 0 0) (place l.version l.number 0 0) l.fn.found.items l.found.items;
}

use Rattle.std.proofs.Common.{None, ◌-◌, take}
use Rattle.std.specs.List.{flat_map}
use Rattle.gh_base.specs.Structures.{interpretation_of}
use Rattle.gh_inst.specs.Table.{table}
use Rattle.gh_inst.specs.Instances.{row_instances}
use Rattle.gh_inst.specs.Violations.{IsInstanceTrue}
use Rattle.gh_inst.specs.Search.{IsSearched}
use Rattle.gh_inst.proofs.violation.violated.Given as goal

abbrev pub invariant-loop-number : goal.invariant-loop-number
invariant-loop-number l =
    IsSearched (IsInstanceTrue (interpretation_of l.structure))
    (flat_map (row_instances l.structure.sizes.terms l.structure.sizes.versions) (take (l.number - 1) table)) None

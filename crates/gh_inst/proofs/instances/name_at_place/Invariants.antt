use Rattle.std.proofs.Common.{◌≡◌, ◌-◌, drop}
use Rattle.std.specs.Prelude.{slice_get}
use Rattle.std.specs.List.{flat_map}
use Rattle.gh_inst.specs.Table.{table}
use Rattle.gh_inst.specs.Instances.{row_instances, instances}
use Rattle.gh_inst.proofs.instances.name_at_place.Given as goal

abbrev pub invariant-loop-row : goal.invariant-loop-row
invariant-loop-row l =
    slice_get (flat_map (row_instances l.terms l.versions) (drop (l.row - 1) table)) l.rest
    ≡ slice_get (instances l.terms l.versions) l.place

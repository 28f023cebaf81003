use Rattle.std.proofs.Common.{◌≡◌, ◌++◌, drop, map}
use Rattle.gh_assert.specs.Cells.{pairs}
use Rattle.gh_scene.specs.Roles.{role_of, roles_of}
use Rattle.gh_scene.proofs.roles.roles_of.Given as goal

abbrev pub invariant-loop-cell : goal.invariant-loop-cell
invariant-loop-cell l =
    l.roles.items ++ map (role_of l.old l.aside l.spare) (pairs (drop l.cell-index l.cell-items))
    ≡ roles_of l.old l.aside l.spare l.new

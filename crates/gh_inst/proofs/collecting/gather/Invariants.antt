use Rattle.std.proofs.Common.{◌-◌, ◌∷◌, [], take}
use Rattle.std.specs.List.{flat_map}
use Rattle.gh_base.specs.Atoms.{terms_below}
use Rattle.gh_inst.specs.Search.{tuples_with}
use Rattle.gh_inst.specs.Collecting.{GathersAt, GoesUp, place}
use Rattle.gh_inst.proofs.collecting.gather.Given as goal

abbrev pub invariant-loop-x : goal.invariant-loop-x
invariant-loop-x l = record {
  gathers : GathersAt l.row
      (flat_map (λ t. tuples_with (l.row.variables - 1) l.row.structure.now.sizes.terms (t ∷ []))
      (take l.x (terms_below l.row.structure.now.sizes.terms)))
      l.fn.found.items l.found.items;
  up : GoesUp (place l.row.version l.row.number 0 0) (place l.row.version l.row.number l.x 0) l.fn.found.items
      l.found.items;
}

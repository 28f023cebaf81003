use Rattle.std.proofs.Common.{◌-◌, ◌∷◌, [], take}
use Rattle.std.specs.List.{flat_map}
use Rattle.gh_base.specs.Atoms.{terms_below}
use Rattle.gh_inst.specs.Search.{tuples_with}
use Rattle.gh_inst.specs.Collecting.{GathersAt, GoesUp, place}
use Rattle.gh_inst.proofs.collecting.gather_second.Given as goal

abbrev pub invariant-loop-y : goal.invariant-loop-y
invariant-loop-y l = record {
  gathers : GathersAt l.row
      (flat_map (λ t. tuples_with (l.row.variables - 2) l.row.structure.now.sizes.terms (l.fn.x ∷ t ∷ []))
      (take l.y (terms_below l.row.structure.now.sizes.terms)))
      l.fn.found.items l.found.items;
  up : GoesUp (place l.row.version l.row.number l.fn.x.0 0) (place l.row.version l.row.number l.fn.x.0 l.y)
      l.fn.found.items l.found.items;
}

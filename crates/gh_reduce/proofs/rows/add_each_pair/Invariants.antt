use Rattle.std.proofs.Common.{◌≡◌}
use Rattle.std.specs.List.{flat_map}
use Rattle.gh_base.specs.Atoms.{terms_below}
use Rattle.gh_symb.specs.Formulas.{each}
use Rattle.gh_reduce.specs.Growth.{stated_in}
use Rattle.gh_reduce.specs.Rows.{of_pair}
use Rattle.gh_reduce.proofs.rows.add_each_pair.Given as goal

abbrev pub invariant-loop-z : goal.invariant-loop-z
invariant-loop-z l =
    l.ground ≡ stated_in l.initial.ground
    (flat_map (λ z. each l.initial.ground.sizes.terms (of_pair l.each z)) (terms_below l.z))

use Rattle.std.proofs.Common.{◌≡◌, ◌∷◌, map}
use Rattle.gh_grass.specs.Claims.{ground_formula_list}
use Rattle.gh_symb.specs.Formulas.{meets, covers, each}
use Rattle.gh_symb.specs.Encodings.{plain_kind}
use Rattle.gh_symb.specs.Inside.{under_of}
use Rattle.gh_reduce.proofs.statements.meets_whole.Given as goal

abbrev pub invariant-loop-z : goal.invariant-loop-z
invariant-loop-z l =
    ground_formula_list l.members.items
    ≡ meets (map plain_kind l.terms) (under_of l.bound) ∷ each l.z (covers (under_of l.bound))

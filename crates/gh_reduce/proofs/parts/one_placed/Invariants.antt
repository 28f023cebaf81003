use Rattle.std.proofs.Common.{◌≡◌, ◌++◌, map, drop}
use Rattle.gh_grass.specs.Claims.{ground_formula_list}
use Rattle.gh_symb.specs.Encodings.{plain_kind}
use Rattle.gh_symb.specs.Inside.{under_of}
use Rattle.gh_reduce.specs.Parts.{placed_of}
use Rattle.gh_reduce.proofs.parts.one_placed.Given as goal

abbrev pub invariant-loop-bound : goal.invariant-loop-bound
invariant-loop-bound l =
    ground_formula_list l.members.items
    ++ map (placed_of (map plain_kind l.terms) l.old (under_of l.before))
    (map under_of (drop l.bound-index l.after))
    ≡ map (placed_of (map plain_kind l.terms) l.old (under_of l.before)) (map under_of l.after)

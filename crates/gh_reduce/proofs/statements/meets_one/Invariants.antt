use Rattle.std.proofs.Common.{◌≡◌, ◌++◌, map, drop}
use Rattle.gh_grass.specs.Claims.{ground_formula_list}
use Rattle.gh_symb.specs.Formulas.{meets_whole}
use Rattle.gh_symb.specs.Encodings.{plain_kind}
use Rattle.gh_symb.specs.Inside.{under_of}
use Rattle.gh_reduce.proofs.statements.meets_one.Given as goal

abbrev pub invariant-loop-bound : goal.invariant-loop-bound
invariant-loop-bound l =
    ground_formula_list l.members.items
    ++ map (meets_whole (map plain_kind l.terms)) (map under_of (drop l.bound-index l.bounds))
    ≡ map (meets_whole (map plain_kind l.terms)) (map under_of l.bounds)

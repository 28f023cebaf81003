use Rattle.std.proofs.Common.{◌≡◌, ◌∷◌, map}
use Rattle.gh_ast.specs.Plain.{assertion_of}
use Rattle.gh_grass.specs.Claims.{ground_formula_list}
use Rattle.gh_symb.specs.Formulas.{meets, covers, each}
use Rattle.gh_symb.specs.Encodings.{plain_kind}
use Rattle.gh_entail.specs.Asked.{under_at}
use Rattle.gh_entail.proofs.formula.meets_whole.Given as goal

abbrev pub invariant-loop-z : goal.invariant-loop-z
invariant-loop-z l =
    ground_formula_list l.members.items
    ≡ meets (map plain_kind l.terms) (under_at l.binding (assertion_of l.assertion))
    ∷ each l.z (covers (under_at l.binding (assertion_of l.assertion)))

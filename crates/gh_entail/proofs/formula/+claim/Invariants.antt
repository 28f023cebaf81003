use Rattle.std.proofs.Common.{◌≡◌, ◌++◌, map, drop}
use Rattle.gh_grass.specs.Claims.{ground_formula_list}
use Rattle.gh_symb.specs.Encodings.{plain_kind}
use Rattle.gh_symb.specs.Inside.{binding_of}
use Rattle.gh_entail.specs.Formulas.{claim_formulas}
use Rattle.gh_ast.specs.Questions.{claims_view}
use Rattle.gh_entail.proofs.formula.+claim.Given as goal

abbrev pub invariant-formulas_of_claims-loop-claim : goal.invariant-formulas_of_claims-loop-claim
invariant-formulas_of_claims-loop-claim l =
    ground_formula_list l.formulas.items
    ++ claim_formulas (map plain_kind l.terms) (binding_of l.binding) (claims_view (drop l.claim-index l.claims))
    ≡ claim_formulas (map plain_kind l.terms) (binding_of l.binding) (claims_view l.claims)

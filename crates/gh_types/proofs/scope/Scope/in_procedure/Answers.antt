use Rattle.std.proofs.Common.{◌≡◌, List, map, ap, sym, ◌∙◌, subst}
use Rattle.gh_ast.specs.declared.Occ.{Occ}
use Rattle.gh_ast.specs.Plain.{procedure_of, assertions_view}
use Rattle.gh_ast.specs.Occurrences.{variables_of, in_alternatives, in_assertions}
use Rattle.gh_types.specs.Checks.{RepeatErrors}
use Rattle.gh_types.specs.Faults.{IsFirstOf}
use Rattle.gh_types.proofs.FirstLemmas.{first_either, first_list, first_no_body, in_alternatives_flat}
use Rattle.gh_types.proofs.scope.Scope.in_procedure.Goals as goal

pub returns : goal.returns
returns c =
    let same : map (λ o. o.now) c.as_slice.result.now ≡ variables_of (procedure_of c.args.self.now.own.now) =
    ap (map (λ o. o.now)) c.as_slice.ensures.value ∙ c.in_ok-names.ensures in
    let again =
    subst (λ (os : List Occ). IsFirstOf (RepeatErrors 2 os) c.in_ok-again.again) same c.in_ok-again.ensures in
    let gives =
    first_list _ (in_alternatives (procedure_of c.args.self.now.own.now).gives) _ _
    (in_alternatives_flat c.args.self.now.own.now.gives.items
    ∙ ap (λ fs. in_assertions (assertions_view fs)) (sym c.as_slice-2.ensures.value)) c.in_assertions.ensures in
    let missing =
    first_no_body c.args.self.now.own.now c.is_some.result c.unless-missing.result c.is_some.ensures
    c.unless-missing.ensures in
    first_either _ _ _ _ _ c.earlier-2.ensures again (
    first_either _ _ _ _ _ c.earlier.ensures
    (first_either _ _ _ _ _ c.earlier-contract.ensures c.in_assertion.ensures.says gives.says)
    (first_either _ _ _ _ _ c.earlier-body.ensures c.in_ok-in_body.ensures.says missing)
    )

use Rattle.std.proofs.Common.{◌≡◌, ◌++◌, map, ap, subst, ◌∙◌}
use Rattle.gh_ast.specs.Questions.{question_of}
use Rattle.gh_types.specs.Tables.{IsTableOf}
use Rattle.gh_entail.specs.Rules.{in_claim, in_question}
use Rattle.gh_entail.proofs.Faults.{all_unknown}
use Rattle.gh_entail.proofs.admit.unknown_name.Goals as goal

pub returns : goal.returns
returns c =
    let q = question_of c.args.question.now in
    let declared : map (λ o. o.now) c.as_slice-2.result.now ≡ q.variables =
    ap (map (λ o. o.now)) c.as_slice-2.ensures.value ∙ c.in_ok-variables.ensures ∙ c.as_slice.ensures.value in
    let table =
    subst (λ os. IsTableOf (map (λ o. o.name) os) c.in_ok-names.names.places) declared c.in_ok-names.ensures in
    let found : map (λ o. o.now) c.as_slice-3.result.now ≡ in_question q =
    ap (map (λ o. o.now)) c.as_slice-3.ensures.value ∙ c.in_ok-add_claim-2.ensures
    ∙ ap (λ os. os ++ in_claim q.right)
    (c.in_ok-add_claim.ensures
    ∙ ap (λ xs. map (λ o. o.now) xs ++ in_claim q.left) c.new-occurrences.ensures.items) in
    all_unknown q _ _ found (c.first_undeclared.ensures q.variables table)

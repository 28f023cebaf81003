use Rattle.std.proofs.Common.{◌≡◌, ◌++◌, ◌∙◌, sym, ap, subst}
use Rattle.gh_ast.specs.Plain.{procedure_of}
use Rattle.gh_ast.specs.Programs.{names, parameters_of, results_of}
use Rattle.gh_assert.specs.Stores.{listed_names}
use Rattle.gh_model.specs.KeptTraces.{entries_under, store_in}
use Rattle.gh_model.proofs.building.Stores.{Once, parameters_once, results_once, locals_once, one_by_one}
use Rattle.gh_model.proofs.build.store.Goals as goal

pub add_each-requires-clause-distinct : goal.add_each-requires-clause-distinct
add_each-requires-clause-distinct c =
    subst (λ os. Once (listed_names c.new-store.result ++ names os)) (sym c.as_slice.ensures.value)
    (parameters_once (procedure_of c.args.procedure.now) c.new-store.result c.new-store.ensures c.requires.distinct)

pub add_each-requires-2-clause-distinct : goal.add_each-requires-2-clause-distinct
add_each-requires-2-clause-distinct c =
    let q = procedure_of c.args.procedure.now in
    let S = store_in c.args.structure.now c.args.binding.now in
    let first : c.add_each.new.store ≡ entries_under S (parameters_of q) =
    c.in_ok-add_each.ensures ∙ ap (λ es. es ++ entries_under S (names c.as_slice.result.now)) c.new-store.ensures
    ∙ ap (λ os. entries_under S (names os)) c.as_slice.ensures.value in
    subst (λ os. Once (listed_names c.add_each.new.store ++ names os)) (sym c.as_slice-2.ensures.value)
    (results_once S q c.add_each.new.store first c.requires.distinct)

pub add_each-requires-3-clause-distinct : goal.add_each-requires-3-clause-distinct
add_each-requires-3-clause-distinct c =
    let q = procedure_of c.args.procedure.now in
    let S = store_in c.args.structure.now c.args.binding.now in
    let first : c.add_each.new.store ≡ entries_under S (parameters_of q) =
    c.in_ok-add_each.ensures ∙ ap (λ es. es ++ entries_under S (names c.as_slice.result.now)) c.new-store.ensures
    ∙ ap (λ os. entries_under S (names os)) c.as_slice.ensures.value in
    let both : c.add_each-2.new.store ≡ entries_under S (parameters_of q) ++ entries_under S (results_of q) =
    c.in_ok-add_each-2.ensures ∙ ap (λ es. es ++ entries_under S (names c.as_slice-2.result.now)) first
    ∙ ap (λ os. entries_under S (parameters_of q) ++ entries_under S (names os)) c.as_slice-2.ensures.value in
    subst (λ os. Once (listed_names c.add_each-2.new.store ++ names os)) (sym c.locals.ensures)
    (locals_once S q c.add_each-2.new.store both c.requires.distinct)

pub returns : goal.returns
returns c =
    let q = procedure_of c.args.procedure.now in
    let S = store_in c.args.structure.now c.args.binding.now in
    let first : c.add_each.new.store ≡ entries_under S (parameters_of q) =
    c.in_ok-add_each.ensures ∙ ap (λ es. es ++ entries_under S (names c.as_slice.result.now)) c.new-store.ensures
    ∙ ap (λ os. entries_under S (names os)) c.as_slice.ensures.value in
    let both : c.add_each-2.new.store ≡ entries_under S (parameters_of q) ++ entries_under S (results_of q) =
    c.in_ok-add_each-2.ensures ∙ ap (λ es. es ++ entries_under S (names c.as_slice-2.result.now)) first
    ∙ ap (λ os. entries_under S (parameters_of q) ++ entries_under S (names os)) c.as_slice-2.ensures.value in
    c.in_ok-add_each-3.ensures ∙ ap (λ es. es ++ entries_under S (names c.locals.result.now)) both
    ∙ ap (λ os. (entries_under S (parameters_of q) ++ entries_under S (results_of q)) ++ entries_under S (names os))
    c.locals.ensures ∙ one_by_one S q

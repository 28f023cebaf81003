-- The store of a model lists the variables of the question with the values of their terms.
use Rattle.std.specs.Prelude.{◌≡◌, ◌≢◌, List, [], ◌++◌, Bool, true, false, not, AllPairs}
use Rattle.std.proofs.Common.{refl, sym, ◌∙◌, ap, subst, inl, inr}
use Rattle.gh_ast.proofs.TypedPrograms.{no_repeats}
use Rattle.gh_base.specs.Structures.{Tables, interpretation_of}
use Rattle.gh_ast.specs.declared.Occ.{Occ}
use Rattle.gh_ast.specs.Programs.{Name, names}
use Rattle.gh_ast.specs.Questions.{Claim, leaf, denial, every, either, Claims, no_claims, claim_first, Question}
use Rattle.gh_ast.proofs.Members.{name_or}
use Rattle.gh_ast.proofs.Sites.{AllIn, all_left, all_right, any_of, formula_in, name_had}
use Rattle.gh_assert.specs.declared.store.Entry.{Entry}
use Rattle.gh_assert.specs.Stores.{listed_names, store_of}
use Rattle.gh_path.specs.Terms.{Terms, no_terms, walked}
use Rattle.gh_grass.specs.declared.binding.Bond.{Bond}
use Rattle.gh_symb.specs.Encodings.{IsBinding}
use Rattle.gh_model.specs.BoundVariables.{AreOf}
use Rattle.gh_model.specs.BuiltTraces.{value_under, store_under}
use Rattle.gh_model.specs.Classes.{class_of}
use Rattle.gh_model.specs.Versions.{equal_in}
use Rattle.gh_model.specs.KeptTraces.{entries_under, store_in}
use Rattle.gh_model.proofs.terms.BoundVariables.{walked_of, no_term_outside}
use Rattle.gh_model.proofs.building.Traces.{store_is}
use Rattle.gh_entail.specs.Rules.{in_claim, in_claims, in_question, unknown_name, duplicate_name, IsTyped}
use Rattle.gh_entail.specs.Terms.{witnessed, claim_walked, claims_walked, question_walked}

-- no two variables of a question have one name
pub variables_are_distinct : (q : Question) → IsTyped q → AllPairs (λ x y. x ≢ y) (names q.variables)
variables_are_distinct q typed = no_repeats q.variables (λ s r. typed 2 s (duplicate_name refl r))

-- each occurrence in a claim names a variable of the question
all_declared : (q : Question) → IsTyped q → AllIn (in_question q) (names q.variables)
all_declared q typed o there = elim (name_or (names q.variables) o.name) [
  | inl known ↦ known
  | inr unknown ↦ absurd (typed 1 o.span
      (unknown_name refl (any_of _ (in_question q) o there (refl, λ has. unknown (name_had q.variables o.name has)))))
]

-- so only variables have terms
witnessed_of : (xs : List Name) (n : Bool) (s : Terms) → AreOf xs s.bindings → AreOf xs (witnessed n s).bindings
witnessed_of xs true s B = B
witnessed_of xs false s B = B

mutual
  claim_of : (xs : List Name) (n : Bool) (c : Claim) (s : Terms) → AllIn (in_claim c) xs → AreOf xs s.bindings
      → AreOf xs (claim_walked n c s).bindings
  claim_of xs n (leaf f) s all B = witnessed_of xs n (walked f s) (walked_of xs f s (formula_in f xs all) B)
  claim_of xs n (denial c) s all B = claim_of xs (not n) c s all B
  claim_of xs n (every cs) s all B = claims_of xs n cs s all B
  claim_of xs n (either cs) s all B = claims_of xs n cs s all B

  claims_of : (xs : List Name) (n : Bool) (cs : Claims) (s : Terms) → AllIn (in_claims cs) xs → AreOf xs s.bindings
      → AreOf xs (claims_walked n cs s).bindings
  claims_of xs n no_claims s all B = B
  claims_of xs n (claim_first c cs) s all B =
      claims_of xs n cs (claim_walked n c s) (all_right (in_claim c) (in_claims cs) xs all)
      (claim_of xs n c s (all_left (in_claim c) (in_claims cs) xs all) B)

only_variables : (q : Question) → IsTyped q → AreOf (names q.variables) (question_walked q).bindings
only_variables q typed =
    let xs = names q.variables in
    let all = all_declared q typed in
    claim_of xs true q.right (claim_walked false q.left no_terms)
    (all_right (in_claim q.left) (in_claim q.right) xs all)
    (claim_of xs false q.left no_terms (all_left (in_claim q.left) (in_claim q.right) xs all) (λ y t e. absurd cc))

-- the store that is kept has the values of the variables' terms, and 0 for every other name
pub store_kept : (q : Question) (s : Tables) (b : List Bond) → IsTyped q → IsBinding b (question_walked q).bindings
    → store_of (entries_under (store_in s b) (names q.variables))
    ≡ store_under (class_of (equal_in (interpretation_of s)) s.sizes.terms) (question_walked q).bindings
store_kept q s b typed is =
    let xs = names q.variables in
    let B = (question_walked q).bindings in
    let S = store_in s b in
    let at = class_of (equal_in (interpretation_of s)) s.sizes.terms in
    let same : (y : Name) → S y ≡ store_under at B y = λ y. ap (value_under at) (is y) in
    let each : (y : Name) → store_of (entries_under S xs) y ≡ store_under at B y =
    λ y. store_is S xs y (λ out. same y ∙ ap (value_under at) (no_term_outside xs B (only_variables q typed) y out))
    ∙ same y in
    λ j y. each y j

-- where nothing is listed yet, the names of a list are distinct
pub distinct_after : (es : List Entry) (os ps : List Occ) → es ≡ [] → os ≡ ps → AllPairs (λ x y. x ≢ y) (names os)
    → AllPairs (λ x y. x ≢ y) (listed_names es ++ names ps)
distinct_after es os ps e f d =
    subst (λ ys. AllPairs (λ x y. x ≢ y) (listed_names ys ++ names ps)) (sym e)
    (subst (λ xs. AllPairs (λ x y. x ≢ y) (names xs)) f d)

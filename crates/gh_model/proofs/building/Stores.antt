-- States of a structure.
use Rattle.std.specs.Prelude.{◌≡◌, ◌≢◌, ℕ, ◌+◌, ◌<◌, ◌≤◌, List, [], ◌∷◌, ◌++◌, length, get_or, Some, AllPairs, Contains}
use Rattle.std.specs.Option.{option_map}
use Rattle.std.proofs.Common.{refl, sym, ◌∙◌, ap, subst, append_assoc, drop, arith}
use Rattle.std.proofs.lemmas.List.{map-append, length-append, get_or_append_left, drop_all, append-nil}
use Rattle.gh_base.specs.declared.atom.Term.{Term}
use Rattle.gh_base.specs.Structures.{Tables, AreTables, class_at, interpretation_of}
use Rattle.gh_ast.specs.declared.Occ.{Occ}
use Rattle.gh_ast.specs.Plain.{Procedure}
use Rattle.gh_ast.specs.Programs.{Name, names, parameters_of, results_of, variable_names}
use Rattle.gh_ast.specs.Occurrences.{locals_of}
use Rattle.gh_ast.proofs.TypedPrograms.{variables_split}
use Rattle.gh_assert.specs.Meaning.{Store}
use Rattle.gh_assert.specs.declared.store.Entry.{Entry}
use Rattle.gh_assert.specs.Stores.{listed_names, AreDistinct}
use Rattle.gh_trace.proofs.Listings.{next, not_before}
use Rattle.gh_grass.specs.declared.binding.Bond.{Bond}
use Rattle.gh_grass.specs.Bindings.{term_in}
use Rattle.gh_model.specs.Classes.{class_of}
use Rattle.gh_model.specs.Versions.{equal_in}
use Rattle.gh_model.specs.BuiltTraces.{value_under}
use Rattle.gh_model.specs.KeptTraces.{entries_under, store_in}
use Rattle.gh_model.proofs.building.Heaps.{class_is}

pub value_some : (s : Tables) → AreTables s → (b : List Bond) (x : Name) (t : Term) → term_in b x ≡ Some t
    → t.0 < s.sizes.terms → store_in s b x ≡ class_at s.classes t.0
value_some s A b x t e l =
    ap (λ o. value_under (class_of (equal_in (interpretation_of s)) s.sizes.terms) (option_map (λ (u : Term). u.0) o)) e
    ∙ class_is s A t.0 l

-- the names of variables with their values
pub listed_under : (S : Store) (xs : List Name) → listed_names (entries_under S xs) ≡ xs
listed_under S [] = refl
listed_under S (x ∷ xs) = ap (λ ys. x ∷ ys) (listed_under S xs)

-- all names are listed once
abbrev pub Once : List Name → Type 0
Once xs = AllPairs (λ x y. x ≢ y) xs

pub once_under : (S : Store) (es : List Entry) (xs : List Name) → Once (listed_names es ++ xs)
    → AreDistinct (es ++ entries_under S xs)
once_under S es xs d =
    subst Once (sym (map-append (λ (e : Entry). e.name) es (entries_under S xs)
    ∙ ap (λ ys. listed_names es ++ ys) (listed_under S xs))) d

-- the variables that are left come after those that are there
pub record GoesOn (S : Store) (whole es : List Entry) (os : List Occ) : Type 0 where
  pub is : es ++ entries_under S (names os) ≡ whole

goes_next : (S : Store) (whole es : List Entry) (os : List Occ) (i : ℕ) (o : Occ) → i < length os → o ≡ get_or os i o
    → GoesOn S whole es (drop i os)
    → es ++ record { name = o.name; value = S o.name } ∷ entries_under S (names (drop (i + 1) os)) ≡ whole
goes_next S whole es os i o within is G = sym (ap (λ t. es ++ entries_under S (names t)) (next os i o within is)) ∙ G.is

pub goes_more : (S : Store) (whole es es' : List Entry) (os : List Occ) (i : ℕ) (o : Occ) (v : ℕ) → i < length os
    → o ≡ get_or os i o → v ≡ S o.name → es' ≡ es ++ record { name = o.name; value = v } ∷ []
    → GoesOn S whole es (drop i os) → GoesOn S whole es' (drop (i + 1) os)
goes_more S whole es es' os i o v within is value added G = record {
  is = ap (λ xs. xs ++ entries_under S (names (drop (i + 1) os))) added
      ∙ append_assoc es (record { name = o.name; value = v } ∷ []) (entries_under S (names (drop (i + 1) os)))
      ∙ ap (λ w. es ++ record { name = o.name; value = w } ∷ entries_under S (names (drop (i + 1) os))) value
      ∙ goes_next S whole es os i o within is G;
}

-- there is none of the names yet
pub goes_new : (S : Store) (whole es : List Entry) (os : List Occ) (i : ℕ) (o : Occ) → AreDistinct whole → i < length os
    → o ≡ get_or os i o → GoesOn S whole es (drop i os) → Contains (listed_names es) o.name → ⊥
goes_new S whole es os i o distinct within is G there =
    let later = entries_under S (names (drop (i + 1) os)) in
    apart es (subst AreDistinct (sym (goes_next S whole es os i o within is G)) distinct) there
  where
    apart : (fs : List Entry)
        → AreDistinct (fs ++ record { name = o.name; value = S o.name } ∷ entries_under S (names (drop (i + 1) os)))
        → Contains (listed_names fs) o.name → ⊥
    apart fs d c =
        not_before fs (record { name = o.name; value = S o.name }) (entries_under S (names (drop (i + 1) os))) d c

pub goes_all : (S : Store) (whole es : List Entry) (os : List Occ) (i : ℕ) → length os ≤ i
    → GoesOn S whole es (drop i os) → es ≡ whole
goes_all S whole es os i end G =
    sym (append-nil es) ∙ sym (ap (λ t. es ++ entries_under S (names t)) (drop_all i os end)) ∙ G.is

-- parameters, results and locals one after another
pub one_by_one : (S : Store) (q : Procedure)
    → (entries_under S (parameters_of q) ++ entries_under S (results_of q)) ++ entries_under S (names (locals_of q))
    ≡ entries_under S (variable_names q)
one_by_one S q =
    let f : Name → Entry = λ x. record { name = x; value = S x } in
    sym (ap (entries_under S) (variables_split q) ∙ map-append f (parameters_of q ++ results_of q) (names (locals_of q))
    ∙ ap (λ es. es ++ entries_under S (names (locals_of q))) (map-append f (parameters_of q) (results_of q)))

once_front : (xs ys : List Name) → Once (xs ++ ys) → Once xs
once_front xs ys A i j d l m e =
    A i j d l (omega (arith, m, length-append xs ys))
    (get_or_append_left xs ys d i (omega (arith, l, m)) ∙ e ∙ sym (get_or_append_left xs ys d j m))

once_split : (q : Procedure) → Once (variable_names q) → Once ((parameters_of q ++ results_of q) ++ names (locals_of q))
once_split q d = subst Once (variables_split q) d

-- each part comes after others
pub parameters_once : (q : Procedure) (es : List Entry) → es ≡ [] → Once (variable_names q)
    → Once (listed_names es ++ parameters_of q)
parameters_once q es none d =
    subst (λ fs. Once (listed_names fs ++ parameters_of q)) (sym none)
    (once_front (parameters_of q) (results_of q)
    (once_front (parameters_of q ++ results_of q) (names (locals_of q)) (once_split q d)))

pub results_once : (S : Store) (q : Procedure) (es : List Entry) → es ≡ entries_under S (parameters_of q)
    → Once (variable_names q) → Once (listed_names es ++ results_of q)
results_once S q es is d =
    subst (λ ys. Once (ys ++ results_of q)) (sym (ap listed_names is ∙ listed_under S (parameters_of q)))
    (once_front (parameters_of q ++ results_of q) (names (locals_of q)) (once_split q d))

pub locals_once : (S : Store) (q : Procedure) (es : List Entry)
    → es ≡ entries_under S (parameters_of q) ++ entries_under S (results_of q) → Once (variable_names q)
    → Once (listed_names es ++ names (locals_of q))
locals_once S q es is d =
    let listed : listed_names es ≡ parameters_of q ++ results_of q =
    ap listed_names is ∙ map-append (λ (e : Entry). e.name) (entries_under S (parameters_of q))
    (entries_under S (results_of q))
    ∙ ap (λ ys. ys ++ listed_names (entries_under S (results_of q))) (listed_under S (parameters_of q))
    ∙ ap (λ ys. parameters_of q ++ ys) (listed_under S (results_of q)) in
    subst (λ ys. Once (ys ++ names (locals_of q))) (sym listed) (once_split q d)

-- The store of a callee.
use Rattle.std.specs.Prelude.{◌≡◌, ◌≢◌, ℕ, suc, ◌+◌, List, [], ◌∷◌, ◌++◌, length, map, slice_get, Option, Some, None}
use Rattle.std.specs.Prelude.{true, false, IfSome, IfNone, All, AllPairs, Contains, get_or}
use Rattle.std.specs.Str.{bytes_eq}
use Rattle.std.proofs.Common.{refl, sym, ◌∙◌, ap, subst, inl, inr, arith}
use Rattle.std.proofs.lemmas.Slice.Eq.{bytes_eq-Decides}
use Rattle.std.proofs.lemmas.Bool.{cases_Bool}
use Rattle.std.proofs.lemmas.List.{length-append, get_or_append_left, get_or_default}
use Rattle.std.proofs.lemmas.Option.{slice_get_within, get_or_from_slice_get}
use Rattle.gh_ast.specs.Plain.{Procedure, Program}
use Rattle.gh_ast.specs.Occurrences.{locals_of}
use Rattle.gh_ast.specs.Programs.{Name, names, parameters_of, results_of}
use Rattle.gh_ast.specs.Names.{AssertionIn}
use Rattle.gh_ast.specs.Rules.{IsTyped}
use Rattle.gh_ast.proofs.Lists.{member_first, member_later}
use Rattle.gh_ast.proofs.TypedPrograms.{variables_are_distinct, variables_split, needs_are_parameters}
use Rattle.gh_ast.proofs.TypedPrograms.{gives_are_contract}
use Rattle.gh_assert.specs.declared.store.Entry.{Entry}
use Rattle.gh_assert.specs.Stores.{listed_names, store_of, AreDistinct}
use Rattle.gh_path.specs.Graphs.{IsProcedureAt}
use Rattle.gh_trace.specs.Laws.{HasOwnNames}
use Rattle.gh_trace.specs.Settings.{HasDistinctNames}
use Rattle.gh_trace.specs.Targets.{entries_of}

abbrev Distinct : List Name → Type 0
Distinct ns = AllPairs (λ x y. x ≢ y) ns

pub distinct_front : (xs ys : List Name) → Distinct (xs ++ ys) → Distinct xs
distinct_front xs ys apart i j d before within same =
    let count : length (xs ++ ys) ≡ length xs + length ys = length-append xs ys in
    apart i j d before (omega (arith, within, count))
    (get_or_append_left xs ys d i (omega (arith, before, within)) ∙ same
    ∙ sym (get_or_append_left xs ys d j within))

distinct_later : (n : Name) (ns : List Name) → Distinct (n ∷ ns) → Distinct ns
distinct_later n ns apart i j d before within same =
    apart (suc i) (suc j) d (omega (arith, before)) (omega (arith, within)) same

not_later : (n : Name) (ns : List Name) → Distinct (n ∷ ns) → Contains ns n → ⊥
not_later n ns apart (k, within, is) = apart 0 (suc k) n (omega arith) (omega (arith, within)) (sym is)

-- as many values as names
pub names_listed : (ns : List Name) (vs : List ℕ) → length vs ≡ length ns → listed_names (entries_of ns vs) ≡ ns
names_listed [] vs count = refl
names_listed (n ∷ ns) [] count = absurd (omega (arith, count))
names_listed (n ∷ ns) (v ∷ vs) count = ap (λ ms. n ∷ ms) (names_listed ns vs (omega (arith, count)))

pub both_listed : (ns ms : List Name) (vs ws : List ℕ) → length vs ≡ length ns
    → entries_of ns vs ++ entries_of ms ws ≡ entries_of (ns ++ ms) (vs ++ ws)
both_listed [] ms [] ws count = refl
both_listed [] ms (v ∷ vs) ws count = absurd (omega (arith, count))
both_listed (n ∷ ns) ms [] ws count = absurd (omega (arith, count))
both_listed (n ∷ ns) ms (v ∷ vs) ws count =
    ap (λ es. record { name = n; value = v } ∷ es) (both_listed ns ms vs ws (omega (arith, count)))

same_names : (n m : Name) → n ≢ m → bytes_eq n m ≡ false
same_names n m differ =
    elim (cases_Bool (bytes_eq n m)) [ inl same ↦ absurd (differ ((bytes_eq-Decides n m).0 same)) | inr other ↦ other ]

maps_same : (ns : List Name) (f g : Name → ℕ) → ((n : Name) → Contains ns n → f n ≡ g n) → map f ns ≡ map g ns
maps_same [] f g same = refl
maps_same (n ∷ ns) f g same =
    let first : f n ≡ g n = same n (member_first n ns) in
    let rest : map f ns ≡ map g ns = maps_same ns f g (λ m there. same m (member_later n m ns there)) in
    rw (first, rest) refl

-- the names have the values that stand beside them
pub told : (ns : List Name) (vs : List ℕ) → Distinct ns → length vs ≡ length ns
    → map (store_of (entries_of ns vs)) ns ≡ vs
told [] [] apart count = refl
told [] (v ∷ vs) apart count = absurd (omega (arith, count))
told (n ∷ ns) [] apart count = absurd (omega (arith, count))
told (n ∷ ns) (v ∷ vs) apart count =
    let here : bytes_eq n n ≡ true = (bytes_eq-Decides n n).1 refl in
    let first : store_of (entries_of (n ∷ ns) (v ∷ vs)) n ≡ v = rw here refl in
    let later : map (store_of (entries_of (n ∷ ns) (v ∷ vs))) ns ≡ map (store_of (entries_of ns vs)) ns =
    maps_same ns (store_of (entries_of (n ∷ ns) (v ∷ vs))) (store_of (entries_of ns vs))
    (λ m there. (let other : bytes_eq n m
    ≡ false = same_names n m (λ same. not_later n ns apart (subst (Contains ns) (sym same) there)) in
    rw other refl)) in
    let rest : map (store_of (entries_of ns vs)) ns ≡ vs =
    told ns vs (distinct_later n ns apart) (omega (arith, count)) in
    ap (λ x. x ∷ map (store_of (entries_of (n ∷ ns) (v ∷ vs))) ns) first ∙ ap (λ xs. v ∷ xs) (later ∙ rest)

pub halves : (f : Name → ℕ) (ns ms : List Name) (vs ws : List ℕ) → length vs ≡ length ns → map f (ns ++ ms) ≡ vs ++ ws
    → (map f ns ≡ vs) × (map f ms ≡ ws)
halves f [] ms [] ws count is = (refl, is)
halves f [] ms (v ∷ vs) ws count is = absurd (omega (arith, count))
halves f (n ∷ ns) ms [] ws count is = absurd (omega (arith, count))
halves f (n ∷ ns) ms (v ∷ vs) ws count is =
    let first : f n ≡ v = cc in
    let others : map f (ns ++ ms) ≡ vs ++ ws = cc in
    let rest = halves f ns ms vs ws (omega (arith, count)) others in
    (ap (λ x. x ∷ map f ns) first ∙ ap (λ xs. v ∷ xs) rest.0, rest.1)

-- the store of a callee at its entry
pub told_parameters : (q : Procedure) (vs : List ℕ) (start es : List Entry) → HasDistinctNames q
    → length vs ≡ length (parameters_of q) → start ≡ [] → es ≡ start ++ entries_of (parameters_of q) vs
    → map (store_of es) (parameters_of q) ≡ vs
told_parameters q vs start es apart count none is =
    subst (λ z. map (store_of z) (parameters_of q) ≡ vs)
    (sym (is ∙ ap (λ z. z ++ entries_of (parameters_of q) vs) none))
    (told (parameters_of q) vs (distinct_front (parameters_of q) (results_of q) apart) count)

pub parameters_apart : (q : Procedure) (vs : List ℕ) (start : List Entry) → HasDistinctNames q
    → length vs ≡ length (parameters_of q) → start ≡ [] → AreDistinct (start ++ entries_of (parameters_of q) vs)
parameters_apart q vs start apart count none =
    subst (λ z. AreDistinct (z ++ entries_of (parameters_of q) vs)) (sym none)
    (subst Distinct (sym (names_listed (parameters_of q) vs count))
    (distinct_front (parameters_of q) (results_of q) apart))

-- and with its results
inside_is : (q : Procedure) (vs ws : List ℕ) (start es : List Entry) → length vs ≡ length (parameters_of q) → start ≡ []
    → es ≡ start ++ entries_of (parameters_of q) vs
    → es ++ entries_of (results_of q) ws ≡ entries_of (parameters_of q ++ results_of q) (vs ++ ws)
inside_is q vs ws start es count none is =
    ap (λ z. z ++ entries_of (results_of q) ws) (is ∙ ap (λ z. z ++ entries_of (parameters_of q) vs) none)
    ∙ both_listed (parameters_of q) (results_of q) vs ws count

counts : (q : Procedure) (vs ws : List ℕ) → length vs ≡ length (parameters_of q) → length ws ≡ length (results_of q)
    → length (vs ++ ws) ≡ length (parameters_of q ++ results_of q)
counts q vs ws count count' =
    let left : length (vs ++ ws) ≡ length vs + length ws = length-append vs ws in
    let right : length (parameters_of q ++ results_of q) ≡ length (parameters_of q) + length (results_of q) =
    length-append (parameters_of q) (results_of q) in
    omega (arith, left, right, count, count')

pub results_apart : (q : Procedure) (vs ws : List ℕ) (start es : List Entry) → HasDistinctNames q
    → length vs ≡ length (parameters_of q) → length ws ≡ length (results_of q) → start ≡ []
    → es ≡ start ++ entries_of (parameters_of q) vs
    → AreDistinct (es ++ entries_of (results_of q) ws)
results_apart q vs ws start es apart count count' none is =
    subst AreDistinct (sym (inside_is q vs ws start es count none is))
    (subst Distinct (sym (names_listed (parameters_of q ++ results_of q) (vs ++ ws) (counts q vs ws count count')))
    apart)

pub told_both : (q : Procedure) (vs ws : List ℕ) (start es es' : List Entry) → HasDistinctNames q
    → length vs ≡ length (parameters_of q) → length ws ≡ length (results_of q) → start ≡ []
    → es ≡ start ++ entries_of (parameters_of q) vs
    → es' ≡ es ++ entries_of (results_of q) ws
    → (map (store_of es') (parameters_of q) ≡ vs) × (map (store_of es') (results_of q) ≡ ws)
told_both q vs ws start es es' apart count count' none is is' =
    let all : es' ≡ entries_of (parameters_of q ++ results_of q) (vs ++ ws) =
    is' ∙ inside_is q vs ws start es count none is in
    halves (store_of es') (parameters_of q) (results_of q) vs ws count
    (subst (λ z. map (store_of z) (parameters_of q ++ results_of q) ≡ vs ++ ws) (sym all)
    (told (parameters_of q ++ results_of q) (vs ++ ws) apart (counts q vs ws count count')))

pub contained_at : (ps : List Procedure) (n : ℕ) (q : Procedure) → slice_get ps n ≡ Some q → Contains ps q
contained_at ps n q at = (n, slice_get_within ps n q at, get_or_from_slice_get ps n q q at)

each_is : {X : Type 0} (P : X → Type 0) (xs : List X) → ((x : X) → Contains xs x → P x) → All P xs
each_is P xs f k d within = f (get_or xs k d) (k, within, get_or_default xs k (get_or xs k d) d within)

pub own_names : (P : Program) (n : ℕ) (q : Procedure) → IsTyped P → IsProcedureAt P n q → HasOwnNames q
own_names P n q typed at = record {
  needs_in = needs_are_parameters P typed q (contained_at P.procedures n q at);
  gives_in =
      each_is (λ f. AssertionIn f (parameters_of q ++ results_of q)) q.gives
      (λ f there. gives_are_contract P typed q (contained_at P.procedures n q at) f there);
}

pub distinct_names : (P : Program) (n : ℕ) (q : Procedure) → IsTyped P → IsProcedureAt P n q → HasDistinctNames q
distinct_names P n q typed at =
    distinct_front (parameters_of q ++ results_of q) (names (locals_of q))
    (subst Distinct (variables_split q) (variables_are_distinct P typed q (contained_at P.procedures n q at)))

pub if_some : {V : Type 0} (P Q : V → Type 0) (o : Option V) → ((v : V) → P v → Q v) → IfSome o P → IfSome o Q
if_some P Q None f is = tt
if_some P Q (Some v) f is = f v is

pub if_none : {V : Type 0} {P Q : Type 0} (o : Option V) → (P → Q) → IfNone o P → IfNone o Q
if_none None f is = f is
if_none (Some v) f is = tt

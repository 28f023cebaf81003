-- Stores that begin, and values that are given.
use Rattle.std.specs.Prelude.{◌≡◌, ◌≢◌, ℕ, zero, suc, ◌+◌, ◌-◌, ◌<◌, ◌≤◌, List, [], ◌∷◌, ◌++◌, length, map, take, drop}
use Rattle.std.specs.Prelude.{get_or, Option, Some, None, cond, unwrap_or, false, OnSome, All, AllPairs, Contains}
use Rattle.std.specs.FinMap.{get, entries, find, get-entries}
use Rattle.std.specs.Ordering.{nat_cmp}
use Rattle.std.specs.Str.{bytes_eq}
use Rattle.std.proofs.lemmas.Slice.Eq.{bytes_eq-Decides}
use Rattle.std.proofs.lemmas.Bool.{cases_Bool}
use Rattle.std.proofs.lemmas.List.{map-append, get_or-take, get_or-map, get_or-append-add, length-take-le, length-map}
use Rattle.std.proofs.lemmas.List.{length-append, take_more, take-append-drop, get_or_default}
use Rattle.std.proofs.lemmas.Grind.{common_steps}
use Rattle.std.proofs.Math.Seq.{take-append-add}
use Rattle.std.proofs.Common.{refl, sym, ◌∙◌, ap, subst, inl, inr, append_assoc, arith, Fits, Fits-lit, w32}
use Rattle.std.proofs.Math.Facts.{Fits-lt}
use Rattle.std.proofs.lemmas.List.Elements.{All-contains}
use Rattle.gh_ast.specs.declared.Occ.{Occ}
use Rattle.gh_ast.specs.Plain.{Procedure, Program}
use Rattle.gh_ast.specs.Programs.{Name, names, parameters_of, results_of, variable_names}
use Rattle.gh_ast.specs.Occurrences.{locals_of, variables_of}
use Rattle.gh_ast.specs.Limits.{KeepsLimits}
use Rattle.gh_ast.proofs.Lists.{member_first, member_later, member_cases}
use Rattle.gh_ast.proofs.TypedPrograms.{parameters_first, variables_split}
use Rattle.gh_assert.specs.declared.store.Entry.{Entry}
use Rattle.gh_assert.specs.declared.heap.Cell.{Cell}
use Rattle.gh_assert.specs.Cells.{pairs, AreCells}
use Rattle.gh_assert.specs.Heaps.{Heap, IsProper}
use Rattle.gh_assert.specs.Meaning.{Store}
use Rattle.gh_assert.proofs.Unique.{apart}
use Rattle.gh_assert.proofs.Proper.{at_proper}
use Rattle.gh_assert.specs.Stores.{listed_names, listed, store_of, IsSet}
use Rattle.gh_assert.specs.Values.{Gets}
use Rattle.gh_machine.specs.Fits.{AreAllDistinct}
use Rattle.gh_machine.proofs.TypedFits.{distinct_left}
use Rattle.gh_machine.specs.Configs.{beside, beginning, starts_of}

-- stores that agree at some names give the same values there
pub maps_same : (xs : List Name) (t u : Store) → ((y : Name) → Contains xs y → t y ≡ u y) → map t xs ≡ map u xs
maps_same [] t u same = refl
maps_same (x ∷ xs) t u same =
    ap (λ v. v ∷ map t xs) (same x (member_first x xs))
    ∙ ap (λ vs. u x ∷ vs) (maps_same xs t u (λ y there. same y (member_later x y xs there)))

-- one name that is set gets its value
pub set_gets : (old new : List Entry) (x : Name) (v : ℕ) → IsSet old new x v
    → Gets (store_of old) (x ∷ []) (v ∷ []) (store_of new)
set_gets old new x v is = record {
  given = ap (λ o. unwrap_or o 0 ∷ []) is.value_is;
  kept = λ y out. ap (λ o. unwrap_or o 0)
      (is.others y (λ same. out (subst (λ z. Contains (x ∷ []) z) (sym same) (member_first x []))));
}

-- and one more
pub gets_more : (s : Store) (mid new : List Entry) (xs : List Name) (vs : List ℕ) (x : Name) (v : ℕ)
    → Gets s xs vs (store_of mid) → IsSet mid new x v → (Contains xs x → ⊥)
    → Gets s (xs ++ x ∷ []) (vs ++ v ∷ []) (store_of new)
gets_more s mid new xs vs x v gets is out = record { given = given; kept = kept }
  where
    apart : (y : Name) → Contains xs y → store_of new y ≡ store_of mid y
    apart y there = ap (λ o. unwrap_or o 0) (is.others y (λ same. out (subst (Contains xs) same there)))

    given : map (store_of new) (xs ++ x ∷ []) ≡ vs ++ v ∷ []
    given =
        map-append (store_of new) xs (x ∷ [])
        ∙ ap (λ ws. ws ++ store_of new x ∷ []) (maps_same xs (store_of new) (store_of mid) apart ∙ gets.given)
        ∙ ap (λ o. vs ++ unwrap_or o 0 ∷ []) is.value_is

    in_front : (y : Name) (ys : List Name) → Contains ys y → Contains (ys ++ x ∷ []) y
    in_front y [] there = absurd (omega (arith, there.1))
    in_front y (z ∷ ys) there = elim (member_cases z ys y there) [
      | inl same ↦ subst (λ w. Contains (z ∷ (ys ++ x ∷ [])) w) same (member_first z (ys ++ x ∷ []))
      | inr more ↦ member_later z y (ys ++ x ∷ []) (in_front y ys more)
    ]

    at_end : (ys : List Name) → Contains (ys ++ x ∷ []) x
    at_end [] = member_first x []
    at_end (z ∷ ys) = member_later z x (ys ++ x ∷ []) (at_end ys)

    kept : (y : Name) → (Contains (xs ++ x ∷ []) y → ⊥) → store_of new y ≡ s y
    kept y none =
        ap (λ o. unwrap_or o 0) (is.others y
        (λ same. none (subst (λ w. Contains (xs ++ x ∷ []) w) (sym same) (at_end xs))))
        ∙ gets.kept y (λ there. none (in_front y xs there))

pub gets_none : (s : Store) → Gets s [] [] s
gets_none s = record { given = refl; kept = λ y out. refl }

-- where names are distinct, none stands before its place
pub not_before : (zs : List Name) (n : ℕ) (d : Name) → AllPairs (λ x y. x ≢ y) zs → n < length zs
    → Contains (take n zs) (get_or zs n d) → ⊥
not_before zs n d apart within there =
    let few : there.0 < n = omega (arith, there.1, length-take-le n zs (omega (arith, within)), within) in
    apart there.0 n (get_or zs n d) few within
    (sym (get_or-take n zs there.0 (get_or zs n d) few) ∙ there.2 ∙ again zs n d (get_or zs n d) within)
  where
    again : (ys : List Name) (k : ℕ) (d e : Name) → k < length ys → get_or ys k d ≡ get_or ys k e
    again [] k d e w = absurd (omega (arith, w))
    again (y ∷ ys) zero d e w = refl
    again (y ∷ ys) (suc k) d e w = again ys k d e (omega (arith, w))

pub beside_append : (xs ys : List Name) (vs ws : List ℕ) → length xs ≡ length vs
    → beside (xs ++ ys) (vs ++ ws) ≡ beside xs vs ++ beside ys ws
beside_append [] ys [] ws same = refl
beside_append [] ys (v ∷ vs) ws same = absurd (omega (arith, same))
beside_append (x ∷ xs) ys [] ws same = absurd (omega (arith, same))
beside_append (x ∷ xs) ys (v ∷ vs) ws same =
    ap (λ es. record { name = x; value = v } ∷ es) (beside_append xs ys vs ws (omega (arith, same)))

pub names_beside : (xs : List Name) (vs : List ℕ) → length xs ≡ length vs → listed_names (beside xs vs) ≡ xs
names_beside [] vs same = refl
names_beside (x ∷ xs) [] same = absurd (omega (arith, same))
names_beside (x ∷ xs) (v ∷ vs) same = ap (λ ys. x ∷ ys) (names_beside xs vs (omega (arith, same)))

other_name : (x y : Name) → x ≢ y → bytes_eq x y ≡ false
other_name x y n =
    elim (cases_Bool (bytes_eq x y)) [ inl same ↦ absurd (n ((bytes_eq-Decides x y).0 same)) | inr other ↦ other ]

-- what isn't among the first entries is looked up in the rest
pub listed_later : (xs : List Name) (vs : List ℕ) (es : List Entry) (y : Name) → (Contains xs y → ⊥)
    → listed (beside xs vs ++ es) y ≡ listed es y
listed_later [] vs es y out = refl
listed_later (x ∷ xs) [] es y out = refl
listed_later (x ∷ xs) (v ∷ vs) es y out =
    ap (λ b. cond b (Some v) (listed (beside xs vs ++ es) y))
    (other_name x y (λ same. out (subst (Contains (x ∷ xs)) same (member_first x xs)))) ∙
    listed_later xs vs es y (λ there. out (member_later x y xs there))

-- distinct names have the values beside them
pub values_beside : (xs : List Name) (vs : List ℕ) (es : List Entry) → AreAllDistinct xs → length xs ≡ length vs
    → map (store_of (beside xs vs ++ es)) xs ≡ vs
values_beside [] [] es apart same = refl
values_beside [] (v ∷ vs) es apart same = absurd (omega (arith, same))
values_beside (x ∷ xs) [] es apart same = absurd (omega (arith, same))
values_beside (x ∷ xs) (v ∷ vs) es apart same =
    ap (λ b. unwrap_or (cond b (Some v) (listed (beside xs vs ++ es) x)) 0
    ∷ map (store_of (record { name = x; value = v } ∷ (beside xs vs ++ es))) xs) ((bytes_eq-Decides x x).1 refl) ∙
    ap (λ ws. v ∷ ws) (maps_same xs (store_of (record { name = x; value = v } ∷ (beside xs vs ++ es)))
    (store_of (beside xs vs ++ es)) skips ∙ values_beside xs vs es apart.1 (omega (arith, same)))
  where
    skips : (y : Name) → Contains xs y
        → store_of (record { name = x; value = v } ∷ (beside xs vs ++ es)) y ≡ store_of (beside xs vs ++ es) y
    skips y there =
        ap (λ b. unwrap_or (cond b (Some v) (listed (beside xs vs ++ es) y)) 0)
        (other_name x y (λ is. apart.0 (subst (Contains xs) (sym is) there)))

-- what a procedure begins with: the arguments, and then what was chosen
pub begins_with : (p : Procedure) (vs ss : List ℕ) → length vs ≡ length (parameters_of p)
    → beginning p vs ss ≡ beside (parameters_of p) vs ++ beside (starts_of p) ss
begins_with p vs ss same =
    ap (λ xs. beside xs (vs ++ ss)) (parameters_first p)
    ∙ beside_append (parameters_of p) (starts_of p) vs ss (sym same)

pub arguments_given : (p : Procedure) (vs ss : List ℕ) → AreAllDistinct (parameters_of p)
    → length vs ≡ length (parameters_of p) → map (store_of (beginning p vs ss)) (parameters_of p) ≡ vs
arguments_given p vs ss apart same =
    ap (λ es. map (store_of es) (parameters_of p)) (begins_with p vs ss same)
    ∙ values_beside (parameters_of p) vs (beside (starts_of p) ss) apart (sym same)

pub starts_chosen : (p : Procedure) (vs ss : List ℕ) → length vs ≡ length (parameters_of p) → (y : Name)
    → (Contains (parameters_of p) y → ⊥) → store_of (beginning p vs ss) y ≡ store_of (beside (starts_of p) ss) y
starts_chosen p vs ss same y out =
    ap (λ es. store_of es y) (begins_with p vs ss same)
    ∙ ap (λ o. unwrap_or o 0) (listed_later (parameters_of p) vs (beside (starts_of p) ss) y out)

-- the name at a place
pub name_at : (os : List Occ) (i : ℕ) (o : Occ) → get_or os i o ≡ o → (d : Name) → i < length os
    → get_or (names os) i d ≡ o.name
name_at os i o is d within = get_or-map (λ (o : Occ). o.name) os i o d within ∙ ap (λ (o : Occ). o.name) is

pub name_there : (os : List Occ) (i : ℕ) (o : Occ) → get_or os i o ≡ o → i < length os → Contains (names os) o.name
name_there os i o is within =
    (i, omega (arith, within, length-map os (λ (o : Occ). o.name)), name_at os i o is o.name within)

pub names_more : (os : List Occ) (i : ℕ) (o : Occ) → get_or os i o ≡ o → i < length os
    → names (take (i + 1) os) ≡ names (take i os) ++ o.name ∷ []
names_more os i o is within =
    ap names (take_more os i o within ∙ ap (λ p. take i os ++ p ∷ []) is)
    ∙ map-append (λ (o : Occ). o.name) (take i os) (o ∷ [])

names_taken : (os : List Occ) (i : ℕ) → names (take i os) ≡ take i (names os)
names_taken [] zero = refl
names_taken [] (suc i) = refl
names_taken (o ∷ os) zero = refl
names_taken (o ∷ os) (suc i) = ap (λ ns. o.name ∷ ns) (names_taken os i)

-- a name doesn't stand before its own place
pub none_before : (front : List Name) (os : List Occ) (i : ℕ) (o : Occ) → AllPairs (λ x y. x ≢ y) (front ++ names os)
    → get_or os i o ≡ o → i < length os → Contains (front ++ names (take i os)) o.name → ⊥
none_before front os i o apart is within there =
    let count : length (names os) ≡ length os = length-map os (λ (o : Occ). o.name) in
    let all : length (front ++ names os) ≡ length front + length (names os) = length-append front (names os) in
    let at : get_or (front ++ names os) (length front + i) o.name ≡ o.name =
    get_or-append-add front (names os) i o.name ∙ name_at os i o is o.name within in
    let taken : front ++ names (take i os) ≡ take (length front + i) (front ++ names os) =
    ap (λ ns. front ++ ns) (names_taken os i) ∙ sym (take-append-add front (names os) i) in
    not_before (front ++ names os) (length front + i) o.name apart (omega (arith, within, count, all))
    (subst (Contains (take (length front + i) (front ++ names os))) (sym at)
    (subst (λ ns. Contains ns o.name) taken there))

pub beside_more : (os : List Occ) (vs : List ℕ) (i : ℕ) (o : Occ) (v : ℕ) → get_or os i o ≡ o → get_or vs i v ≡ v
    → i < length os → length os ≡ length vs
    → beside (names (take (i + 1) os)) (take (i + 1) vs)
    ≡ beside (names (take i os)) (take i vs) ++ record { name = o.name; value = v } ∷ []
beside_more os vs i o v is value within same =
    let values : take (i + 1) vs ≡ take i vs ++ v ∷ [] =
    take_more vs i v (omega (arith, within, same)) ∙ ap (λ w. take i vs ++ w ∷ []) value in
    let shorter : length (names (take i os)) ≡ length (take i vs) =
    length-map (take i os) (λ (o : Occ). o.name) ∙ length-take-le i os (omega (arith, within))
    ∙ sym (length-take-le i vs (omega (arith, within, same))) in
    ap (λ ns. beside ns (take (i + 1) vs)) (names_more os i o is within)
    ∙ ap (beside (names (take i os) ++ o.name ∷ [])) values
    ∙ beside_append (names (take i os)) (o.name ∷ []) (take i vs) (v ∷ []) shorter

-- null is no cell's place
no_cell_at_null : (cs : List Cell) → All (λ c. c.at ≢ 0) cs → find nat_cmp 0 (pairs cs) ≡ None
no_cell_at_null [] all = refl
no_cell_at_null (c ∷ cs) all =
    ap (λ b. cond b (Some c.to) (find nat_cmp 0 (pairs cs))) (apart 0 c.at (λ e. all 0 c (omega arith) (sym e)))
    ∙ no_cell_at_null cs (λ k d w. all (suc k) d (omega (arith, w)))

pub null_is_free : (h : Heap) (cs : List Cell) → pairs cs ≡ entries h → AreCells cs → IsProper h
null_is_free h cs same are = get-entries h 0 ∙ ap (find nat_cmp 0) (sym same) ∙ no_cell_at_null cs are.not_null

pub some_not_null : (h : Heap) (at : ℕ) (o : Option ℕ) → o ≡ get h at → IsProper h → OnSome o (at ≢ 0)
some_not_null h at None same proper = tt
some_not_null h at (Some v) same proper = at_proper h at (v, sym same) proper

shorter : (os : List Occ) (i : ℕ) (n : ℕ) → i < length os → length (names (take i os)) ≡ i
shorter os i n within = length-map (take i os) (λ (o : Occ). o.name) ∙ length-take-le i os (omega (arith, within))

-- one more target has its value
pub given_more : (s : Store) (mid new : List Entry) (os : List Occ) (vs : List ℕ) (i : ℕ) (o : Occ) (v : ℕ)
    → AllPairs (λ x y. x ≢ y) (names os) → i < length os → length os ≡ length vs → get_or os i o ≡ o
    → Gets s (names (take i os)) (take i vs) (store_of mid) → IsSet mid new o.name (get_or vs i v)
    → Gets s (names (take (i + 1) os)) (take (i + 1) vs) (store_of new)
given_more s mid new os vs i o v apart within same is gets set =
    subst (λ ns. Gets s ns (take (i + 1) vs) (store_of new)) (sym (names_more os i o is within))
    (subst (λ ws. Gets s (names (take i os) ++ o.name ∷ []) ws (store_of new))
    (sym (take_more vs i v (omega (arith, within, same))))
    (gets_more s mid new (names (take i os)) (take i vs) o.name (get_or vs i v) gets set
    (none_before [] os i o apart is within)))

pub given_from_more : (s : Store) (mid new : List Entry) (u : Store) (os rs : List Occ) (i : ℕ) (o r : Occ) (v : ℕ)
    → AllPairs (λ x y. x ≢ y) (names os) → i < length os → length os ≡ length rs → get_or os i o ≡ o → get_or rs i r ≡ r
    → v ≡ u r.name
    → Gets s (names (take i os)) (map u (names (take i rs))) (store_of mid) → IsSet mid new o.name v
    → Gets s (names (take (i + 1) os)) (map u (names (take (i + 1) rs))) (store_of new)
given_from_more s mid new u os rs i o r v apart within same is from value gets set =
    let values : map u (names (take (i + 1) rs)) ≡ map u (names (take i rs)) ++ v ∷ [] =
    ap (map u) (names_more rs i r from (omega (arith, within, same))) ∙ map-append u (names (take i rs)) (r.name ∷ [])
    ∙ ap (λ w. map u (names (take i rs)) ++ w ∷ []) (sym value) in
    subst (λ ns. Gets s ns (map u (names (take (i + 1) rs))) (store_of new)) (sym (names_more os i o is within))
    (subst (λ ws. Gets s (names (take i os) ++ o.name ∷ []) ws (store_of new)) (sym values)
    (gets_more s mid new (names (take i os)) (map u (names (take i rs))) o.name v gets set
    (none_before [] os i o apart is within)))

-- the next variable isn't listed yet
pub unlisted_yet : (old mid : List Entry) (os : List Occ) (vs : List ℕ) (i : ℕ) (o : Occ)
    → AllPairs (λ x y. x ≢ y) (listed_names old ++ names os) → i < length os → length os ≡ length vs → get_or os i o ≡ o
    → mid ≡ old ++ beside (names (take i os)) (take i vs) → Contains (listed_names mid) o.name → ⊥
unlisted_yet old mid os vs i o apart within same is stands there =
    let count : length (names (take i os)) ≡ length (take i vs) =
    shorter os i 0 within ∙ sym (length-take-le i vs (omega (arith, within, same))) in
    let listed_so : listed_names mid ≡ listed_names old ++ names (take i os) =
    ap listed_names stands ∙ map-append (λ (e : Entry). e.name) old (beside (names (take i os)) (take i vs))
    ∙ ap (λ ns. listed_names old ++ ns) (names_beside (names (take i os)) (take i vs) count) in
    none_before (listed_names old) os i o apart is within (subst (λ ns. Contains ns o.name) listed_so there)

pub listed_more : (old mid : List Entry) (os : List Occ) (vs : List ℕ) (i : ℕ) (o : Occ) (v : ℕ) → i < length os
    → length os ≡ length vs → get_or os i o ≡ o → mid ≡ old ++ beside (names (take i os)) (take i vs)
    → mid ++ record { name = o.name; value = get_or vs i v } ∷ []
    ≡ old ++ beside (names (take (i + 1) os)) (take (i + 1) vs)
listed_more old mid os vs i o v within same is stands =
    ap (λ es. es ++ record { name = o.name; value = get_or vs i v } ∷ []) stands
    ∙ append_assoc old (beside (names (take i os)) (take i vs))
    (record { name = o.name; value = get_or vs i v } ∷ []) ∙
    ap (λ es. old ++ es) (sym
    (beside_more os vs i o (get_or vs i v) is (get_or_default vs i (get_or vs i v) v (omega (arith, within, same)))
    within same))

-- the lists of variables have no name in common
pub first_apart : (q : Procedure) (es : List Entry) (os : List Occ) → AllPairs (λ x y. x ≢ y) (variable_names q)
    → es ≡ [] → os ≡ q.parameters → AllPairs (λ x y. x ≢ y) (listed_names es ++ names os)
first_apart q es os apart none is =
    subst (λ (fs : List Entry). AllPairs (λ x y. x ≢ y) (listed_names fs ++ names os)) (sym none)
    (subst (λ (ps : List Occ). AllPairs (λ x y. x ≢ y) (names ps)) (sym is)
    (distinct_left (parameters_of q) (starts_of q)
    (subst (λ (ns : List Name). AllPairs (λ x y. x ≢ y) ns) (parameters_first q) apart)))

listed_so_far : (q : Procedure) (e0 e1 : List Entry) (ps : List Occ) (vs : List ℕ) → e0 ≡ []
    → e1 ≡ e0 ++ beside (names ps) vs → ps ≡ q.parameters → e1 ≡ beside (parameters_of q) vs
listed_so_far q e0 e1 ps vs none first is =
    first ∙ ap (λ es. es ++ beside (names ps) vs) none ∙ ap (λ os. beside (names os) vs) is

counted_names : (os : List Occ) (vs : List ℕ) → length os ≡ length vs → length (names os) ≡ length vs
counted_names os vs same = length-map os (λ (o : Occ). o.name) ∙ same

pub second_apart : (q : Procedure) (e0 e1 : List Entry) (ps rs : List Occ) (vs : List ℕ)
    → AllPairs (λ x y. x ≢ y) (variable_names q) → e0 ≡ [] → e1 ≡ e0 ++ beside (names ps) vs → ps ≡ q.parameters
    → rs ≡ q.results → length vs ≡ length q.parameters
    → AllPairs (λ x y. x ≢ y) (listed_names e1 ++ names rs)
second_apart q e0 e1 ps rs vs apart none first is is' count =
    let so : listed_names e1 ≡ parameters_of q =
    ap listed_names (listed_so_far q e0 e1 ps vs none first is)
    ∙ names_beside (parameters_of q) vs (counted_names q.parameters vs (sym count)) in
    subst (λ (ns : List Name). AllPairs (λ x y. x ≢ y) (ns ++ names rs)) (sym so)
    (subst (λ (os : List Occ). AllPairs (λ x y. x ≢ y) (parameters_of q ++ names os)) (sym is')
    (distinct_left (parameters_of q ++ results_of q) (names (locals_of q))
    (subst (λ (ns : List Name). AllPairs (λ x y. x ≢ y) ns) (variables_split q) apart)))

pub third_apart : (q : Procedure) (e0 e1 e2 : List Entry) (ps rs ls : List Occ) (vs ws : List ℕ)
    → AllPairs (λ x y. x ≢ y) (variable_names q) → e0 ≡ [] → e1 ≡ e0 ++ beside (names ps) vs
    → e2 ≡ e1 ++ beside (names rs) ws → ps ≡ q.parameters → rs ≡ q.results → ls ≡ locals_of q
    → length vs ≡ length q.parameters → length ws ≡ length q.results
    → AllPairs (λ x y. x ≢ y) (listed_names e2 ++ names ls)
third_apart q e0 e1 e2 ps rs ls vs ws apart none first second is is' is'' count count' =
    let so : listed_names e2 ≡ parameters_of q ++ results_of q =
    ap listed_names (second ∙ ap (λ es. es ++ beside (names rs) ws) (listed_so_far q e0 e1 ps vs none first is)
    ∙ ap (λ os. beside (parameters_of q) vs ++ beside (names os) ws) is') ∙
    map-append (λ (e : Entry). e.name) (beside (parameters_of q) vs) (beside (results_of q) ws) ∙
    ap (λ ns. ns ++ listed_names (beside (results_of q) ws))
    (names_beside (parameters_of q) vs (counted_names q.parameters vs (sym count))) ∙
    ap (λ ns. parameters_of q ++ ns) (names_beside (results_of q) ws (counted_names q.results ws (sym count'))) in
    subst (λ (ns : List Name). AllPairs (λ x y. x ≢ y) (ns ++ names ls)) (sym so)
    (subst (λ (os : List Occ). AllPairs (λ x y. x ≢ y) ((parameters_of q ++ results_of q) ++ names os)) (sym is'')
    (subst (λ (ns : List Name). AllPairs (λ x y. x ≢ y) ns) (variables_split q) apart))

-- all variables are listed, with the arguments and then what was chosen
pub all_listed : (q : Procedure) (e0 e1 e2 e3 : List Entry) (ps rs ls : List Occ) (vs ss ws us : List ℕ) → e0 ≡ []
    → e1 ≡ e0 ++ beside (names ps) vs → e2 ≡ e1 ++ beside (names rs) ws → e3 ≡ e2 ++ beside (names ls) us
    → ps ≡ q.parameters → rs ≡ q.results → ls ≡ locals_of q → length vs ≡ length q.parameters
    → length ws ≡ length q.results → ws ++ us ≡ ss → e3 ≡ beginning q vs ss
all_listed q e0 e1 e2 e3 ps rs ls vs ss ws us none first second third is is' is'' count count' whole =
    third ∙ ap (λ es. es ++ beside (names ls) us)
    (second ∙ ap (λ es. es ++ beside (names rs) ws) (listed_so_far q e0 e1 ps vs none first is)) ∙
    ap (λ os. (beside (parameters_of q) vs ++ beside (names os) ws) ++ beside (names ls) us) is'
    ∙ ap (λ os. (beside (parameters_of q) vs ++ beside (results_of q) ws) ++ beside (names os) us) is'' ∙
    append_assoc (beside (parameters_of q) vs) (beside (results_of q) ws) (beside (names (locals_of q)) us) ∙
    ap (λ es. beside (parameters_of q) vs ++ es)
    (sym (beside_append (results_of q) (names (locals_of q)) ws us (counted_names q.results ws (sym count')))
    ∙ ap (beside (starts_of q)) whole) ∙
    sym (begins_with q vs ss (count ∙ sym (length-map q.parameters (λ (o : Occ). o.name))))

-- the values for the results stand first among those that were chosen
pub few_starts : (q : Procedure) (n len : ℕ) (ss : List ℕ) → n ≡ len → len ≡ length q.results
    → length ss ≡ length (starts_of q) → length (take n ss) ≡ length q.results
few_starts q n len ss is count all =
    let whole : length (starts_of q) ≡ length (results_of q) + length (names (locals_of q)) =
    length-append (results_of q) (names (locals_of q)) in
    let named : length (results_of q) ≡ length q.results = length-map q.results (λ (o : Occ). o.name) in
    length-take-le n ss (omega (arith, is, count, all, whole, named)) ∙ is ∙ count

rest_of : (n : ℕ) (ss : List ℕ) → take (length ss - n) (drop n ss) ≡ drop n ss
rest_of n ss = grind (arith, common_steps)

pub cut_whole : (n : ℕ) (ss : List ℕ) → take n ss ++ take (length ss - n) (drop n ss) ≡ ss
cut_whole n ss = ap (λ us. take n ss ++ us) (rest_of n ss) ∙ take-append-drop n ss

-- a procedure within the limits has few results and locals
pub starts_fit : (P : Program) (q : Procedure) (n : ℕ) → KeepsLimits P → Contains P.procedures q
    → n ≡ length (starts_of q) → Fits w32 n
starts_fit P q n limits here is =
    let few : length (variables_of q) ≤ 32 =
    All-contains (λ (r : Procedure). length (variables_of r) ≤ 32) P.procedures q limits.variables here in
    let count : length (variable_names q) ≡ length (variables_of q) =
    length-map (variables_of q) (λ (o : Occ). o.name) in
    let split = ap length (parameters_first q) in
    let parts = length-append (parameters_of q) (results_of q ++ names (locals_of q)) in
    Fits-lt (omega (arith, is, few, count, split, parts)) (Fits-lit {w = w32} {n = 33} tt)

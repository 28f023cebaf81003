-- Stores as lists of names with values.
use Rattle.std.specs.Prelude.{◌≡◌, ◌≢◌, ◌↔◌, ◌⊎◌, ℕ, suc, ◌+◌, ◌<◌, ◌≤◌, List, [], ◌∷◌, ◌++◌, length, get_or, unwrap_or}
use Rattle.std.specs.Prelude.{◌==◌, true, false, Bool, IsTrue, AllPairs, Contains}
use Rattle.std.specs.Str.{bytes_eq}
use Rattle.std.proofs.Common.{refl, sym, ◌∙◌, ap, subst, inl, inr, arith, append_assoc}
use Rattle.std.proofs.Common.{drop, add-one}
use Rattle.std.proofs.Math.Seq.{drop-cons}
use Rattle.std.proofs.lemmas.Bool.{cases_Bool, ne_eqb}
use Rattle.std.proofs.lemmas.List.{map-append, get_or-map, length-map, length-append, get_or_append_left}
use Rattle.std.proofs.lemmas.List.{get_or-append-add, drop_all, append-nil}
use Rattle.std.proofs.lemmas.Slice.Eq.{bytes_eq-Decides}
use Rattle.gh_ast.specs.declared.Occ.{Occ}
use Rattle.gh_ast.specs.Plain.{Procedure}
use Rattle.gh_ast.specs.Occurrences.{locals_of}
use Rattle.gh_ast.specs.Programs.{Name, names, parameters_of, results_of, variable_names}
use Rattle.gh_ast.proofs.TypedPrograms.{parameters_first}
use Rattle.gh_ast.proofs.Lists.{member_first, member_later, member_cases, no_member}
use Rattle.gh_assert.specs.declared.store.Entry.{Entry}
use Rattle.gh_assert.specs.Stores.{listed_names, store_of, AreDistinct, IsListedAt}
use Rattle.gh_assert.proofs.Entries.{listed_here, unlisted}
use Rattle.gh_trace.specs.declared.targets.Targets.{Targets}
use Rattle.gh_trace.specs.Targets.{IsTarget, KeepsOthers, entries_of}

-- the members from a place on
pub next : {X : Type 0} (xs : List X) (i : ℕ) (x : X) → i < length xs → x ≡ get_or xs i x
    → drop i xs ≡ x ∷ drop (i + 1) xs
next xs i x within is = drop-cons xs i x within ∙ rw (← is, add-one i) refl

-- whatever follows the names that are left in the rest of the entries follows all names in all entries
pub record GoesOn (es : List Entry) (os : List Occ) (rest : List Entry) (left : List Occ) : Type 0 where
  pub on : (ns : List Name) → (listed_names rest ≡ names left ++ ns) ↔ (listed_names es ≡ names os ++ ns)

pub goes_more : (es : List Entry) (os : List Occ) (e : Entry) (rest : List Entry) (o : Occ) (left : List Occ)
    → GoesOn es os (e ∷ rest) (o ∷ left) → e.name ≡ o.name → GoesOn es os rest left
goes_more es os e rest o left g same = record {
  on = λ ns. (
    λ is. let whole : listed_names (e ∷ rest) ≡ names (o ∷ left) ++ ns = rw (same, is) refl in (g.on ns).0 whole,
    λ is. let whole : e.name ∷ listed_names rest ≡ o.name ∷ (names left ++ ns) = (g.on ns).1 is in
        let tails : listed_names rest ≡ names left ++ ns = cc in tails,
  );
}

pub goes_short : (es : List Entry) (os : List Occ) (o : Occ) (left : List Occ) → GoesOn es os [] (o ∷ left)
    → (ns : List Name) → listed_names es ≡ names os ++ ns → ⊥
goes_short es os o left g ns is = let whole : [] ≡ o.name ∷ (names left ++ ns) = (g.on ns).1 is in absurd cc

pub goes_other : (es : List Entry) (os : List Occ) (e : Entry) (rest : List Entry) (o : Occ) (left : List Occ)
    → GoesOn es os (e ∷ rest) (o ∷ left) → e.name ≢ o.name → (ns : List Name) → listed_names es ≡ names os ++ ns → ⊥
goes_other es os e rest o left g differ ns is =
    let whole : e.name ∷ listed_names rest ≡ o.name ∷ (names left ++ ns) = (g.on ns).1 is in
    let heads : e.name ≡ o.name = cc in
    differ heads

-- the values of some listed names are kept
abbrev pub KeptOf : Targets → List Entry → List Entry → List Entry → Type 0
KeptOf ts old new es = (n : Name) → (IsTarget ts n → ⊥) → Contains (listed_names es) n → store_of new n ≡ store_of old n

pub kept_nothing : (ts : Targets) (old new : List Entry) → KeptOf ts old new []
kept_nothing ts old new n out there = absurd (no_member n there)

-- the entry at a place in distinct entries tells the value of its name
pub listed_value : (es : List Entry) (i : ℕ) (e : Entry) → AreDistinct es → i < length es → e ≡ get_or es i e
    → store_of es e.name ≡ e.value
listed_value es i e distinct within is =
    ap (λ o. unwrap_or o 0) (listed_here es e.name i e at) ∙ ap (λ (d : Entry). d.value) (sym is)
  where
    count : length (listed_names es) ≡ length es
    count = length-map es (λ (d : Entry). d.name)

    same_at : (d : Entry) → (get_or es i d).name ≡ e.name
    same_at d =
        ap (λ (x : Entry). x.name) (Rattle.std.proofs.lemmas.List.get_or_default es i d e within)
        ∙ ap (λ (x : Entry). x.name) (sym is)

    at : IsListedAt es e.name i
    at = record {
      within = within;
      named = same_at;
      earlier = λ k d l same.
          let first : get_or (listed_names es) k d.name ≡ (get_or es k d).name =
          get_or-map (λ (x : Entry). x.name) es k d d.name (omega (arith, l, within)) in
          let later : get_or (listed_names es) i d.name ≡ (get_or es i d).name =
          get_or-map (λ (x : Entry). x.name) es i d d.name within in
          distinct k i d.name l (omega (arith, within, count)) (first ∙ same ∙ sym (later ∙ same_at d));
    }

-- one more entry is kept
pub kept_more : (ts : Targets) (old new : List Entry) (e : Entry) (rest : List Entry) → store_of old e.name ≡ e.value
    → (store_of new e.name ≡ e.value) ⊎ IsTarget ts e.name → KeptOf ts old new rest → KeptOf ts old new (e ∷ rest)
kept_more ts old new e rest value is kept n out there = elim (member_cases e.name (listed_names rest) n there) [
  | inl same ↦ elim is [
    | inl holds ↦ subst (λ m. store_of new m ≡ store_of old m) same (holds ∙ sym value)
    | inr target
        ↦ absurd (out (subst (IsTarget ts) same target))
  ]
  | inr more ↦ kept n out more
]

in_or_out : (es : List Entry) (n : Name) → Contains (listed_names es) n ⊎ (Contains (listed_names es) n → ⊥)
in_or_out [] n = inr (λ there. no_member n there)
in_or_out (e ∷ es) n = elim (cases_Bool (bytes_eq e.name n)) [
  | inl same ↦ inl (subst (Contains (listed_names (e ∷ es))) ((bytes_eq-Decides e.name n).0 same)
      (member_first e.name (listed_names es)))
  | inr other ↦ elim (in_or_out es n) [
    | inl there ↦ inl (member_later e.name n (listed_names es) there)
    | inr out ↦ inr (λ there. elim (member_cases e.name (listed_names es) n there) [
      | inl is ↦ let same : bytes_eq e.name n ≡ true = (bytes_eq-Decides e.name n).1 is in absurd cc
      | inr more ↦ out more
    ])
  ]
]

-- names that aren't listed have the value 0 in both
pub all_kept : (ts : Targets) (old new : List Entry) → listed_names new ≡ listed_names old → KeptOf ts old new old
    → KeepsOthers ts old new
all_kept ts old new names kept n out = elim (in_or_out old n) [
  | inl there ↦ kept n out there
  | inr none ↦ ap (λ o. unwrap_or o 0) (unlisted new n (λ there. none (subst (λ ns. Contains ns n) names there)))
      ∙ sym (ap (λ o. unwrap_or o 0) (unlisted old n none))
]

-- an occurrence of another name makes no difference
pub among_more : (os : List Occ) (i : ℕ) (o : Occ) (n : Name) → i < length os → o ≡ get_or os i o → n ≢ o.name
    → Contains (names (drop i os)) n ↔ Contains (names os) n
    → Contains (names (drop (i + 1) os)) n ↔ Contains (names os) n
among_more os i o n within is differ so = (
  λ later. so.0 (subst (λ xs. Contains (names xs) n) (sym (next os i o within is))
      (member_later o.name n (names (drop (i + 1) os)) later)),
  λ there. elim (member_cases o.name (names (drop (i + 1) os)) n
      (subst (λ xs. Contains (names xs) n) (next os i o within is) (so.1 there)))
      [ inl same ↦ absurd (differ (sym same)) | inr later ↦ later ],
)

cancel : (xs ys zs : List Name) → xs ++ ys ≡ xs ++ zs → ys ≡ zs
cancel [] ys zs e = e
cancel (x ∷ xs) ys zs e = let tails : xs ++ ys ≡ xs ++ zs = cc in cancel xs ys zs tails

no_entries : (es : List Entry) → length (listed_names es) ≡ 0 → es ≡ []
no_entries [] none = refl
no_entries (e ∷ es) none = absurd (omega (arith, none))

add_nil : (xs : List Name) → xs ++ [] ≡ xs
add_nil [] = refl
add_nil (x ∷ xs) = ap (λ ys. x ∷ ys) (add_nil xs)

-- the parameters, results and locals stand first, and nothing follows
pub over_where_empty : (q : Procedure) (es r1 r2 r3 : List Entry) → listed_names es ≡ parameters_of q ++ listed_names r1
    → listed_names r1 ≡ results_of q ++ listed_names r2 → listed_names r2 ≡ names (locals_of q) ++ listed_names r3
    → (r3 ≡ []) ↔ (listed_names es ≡ variable_names q)
over_where_empty q es r1 r2 r3 e1 e2 e3 = (
  λ none. is none ∙ sym (parameters_first q),
  λ over.
      let all : parameters_of q ++ listed_names r1 ≡ parameters_of q ++ (results_of q ++ names (locals_of q)) =
      sym e1 ∙ over ∙ parameters_first q in
      let later : results_of q ++ listed_names r2 ≡ results_of q ++ names (locals_of q) =
      sym e2 ∙ cancel (parameters_of q) (listed_names r1) (results_of q ++ names (locals_of q)) all in
      let last : names (locals_of q) ++ listed_names r3 ≡ names (locals_of q) ++ [] =
      sym e3 ∙ cancel (results_of q) (listed_names r2) (names (locals_of q)) later
      ∙ sym (add_nil (names (locals_of q))) in
      no_entries r3 (ap length (cancel (names (locals_of q)) (listed_names r3) [] last)),
)
  where
    is : r3 ≡ [] → listed_names es ≡ parameters_of q ++ (results_of q ++ names (locals_of q))
    is none =
        e1 ∙ ap (λ ns. parameters_of q ++ ns)
        (e2 ∙ ap (λ ns. results_of q ++ ns)
        (e3 ∙ ap (λ ns. names (locals_of q) ++ ns) (ap listed_names none) ∙ add_nil (names (locals_of q))))

pub not_over_results : (q : Procedure) (es r1 : List Entry) → listed_names es ≡ parameters_of q ++ listed_names r1
    → ((ns : List Name) → listed_names r1 ≡ results_of q ++ ns → ⊥) → listed_names es ≡ variable_names q → ⊥
not_over_results q es r1 e1 none over =
    none (names (locals_of q))
    (cancel (parameters_of q) (listed_names r1) (results_of q ++ names (locals_of q))
    (sym e1 ∙ over ∙ parameters_first q))

pub not_over_locals : (q : Procedure) (es r1 r2 : List Entry) → listed_names es ≡ parameters_of q ++ listed_names r1
    → listed_names r1 ≡ results_of q ++ listed_names r2
    → ((ns : List Name) → listed_names r2 ≡ names (locals_of q) ++ ns → ⊥)
    → listed_names es ≡ variable_names q → ⊥
not_over_locals q es r1 r2 e1 e2 none over =
    let later : listed_names r1 ≡ results_of q ++ names (locals_of q) =
    cancel (parameters_of q) (listed_names r1) (results_of q ++ names (locals_of q))
    (sym e1 ∙ over ∙ parameters_first q) in
    none [] (cancel (results_of q) (listed_names r2) (names (locals_of q)) (sym e2 ∙ later)
    ∙ sym (add_nil (names (locals_of q))))

pub empty_tells : (es : List Entry) (b : Bool) → b ≡ (length es == 0) → IsTrue b ↔ (es ≡ [])
empty_tells [] b is = (λ t. refl, λ e. is)
empty_tells (e ∷ es) b is =
    let other : (length (e ∷ es) == 0) ≡ false = ne_eqb (length (e ∷ es)) 0 (λ z. absurd (omega (arith, z))) in
    (λ t. absurd cc, λ same. absurd cc)

-- the name of an entry in the middle isn't listed before it
pub not_before : (es : List Entry) (e : Entry) (rest : List Entry) → AreDistinct (es ++ e ∷ rest)
    → Contains (listed_names es) e.name → ⊥
not_before es e rest distinct there =
    let split : listed_names (es ++ e ∷ rest) ≡ listed_names es ++ (e.name ∷ listed_names rest) =
    map-append (λ (x : Entry). x.name) es (e ∷ rest) in
    let apart : AllPairs (λ x y. x ≢ y) (listed_names es ++ (e.name ∷ listed_names rest)) =
    subst (λ (ns : List Name). AllPairs (λ x y. x ≢ y) ns) split distinct in
    let early : get_or (listed_names es ++ (e.name ∷ listed_names rest)) there.0 e.name ≡ e.name =
    get_or_append_left (listed_names es) (e.name ∷ listed_names rest) e.name there.0 there.1 ∙ there.2 in
    let late : get_or (listed_names es ++ (e.name ∷ listed_names rest)) (length (listed_names es) + 0) e.name ≡ e.name =
    get_or-append-add (listed_names es) (e.name ∷ listed_names rest) 0 e.name in
    let count : length (listed_names es ++ (e.name ∷ listed_names rest))
    ≡ length (listed_names es) + suc (length (listed_names rest)) =
    length-append (listed_names es) (e.name ∷ listed_names rest) in
    apart there.0 (length (listed_names es) + 0) e.name (omega (arith, there.1)) (omega (arith, count))
    (early ∙ sym late)

-- the entries that are still to come follow those that are there
pub record AddsUp (whole es : List Entry) (os : List Occ) (vs : List ℕ) : Type 0 where
  pub is : es ++ entries_of (names os) vs ≡ whole

abbrev entry : Name → ℕ → Entry
entry n v = record { name = n; value = v }

pub adds_next : (whole es : List Entry) (os : List Occ) (vs : List ℕ) (i : ℕ) (o : Occ) → i < length os
    → o ≡ get_or os i o → i < length vs → AddsUp whole es (drop i os) (drop i vs)
    → es ++ entry o.name (get_or vs i 0) ∷ entries_of (names (drop (i + 1) os)) (drop (i + 1) vs) ≡ whole
adds_next whole es os vs i o within is within' a =
    let values : drop i vs ≡ get_or vs i 0 ∷ drop (i + 1) vs = drop-cons vs i 0 within' ∙ rw (add-one i) refl in
    sym (ap (λ t. es ++ entries_of (names t) (drop i vs)) (next os i o within is)
    ∙ ap (λ t. es ++ entries_of (o.name ∷ names (drop (i + 1) os)) t) values) ∙ a.is

pub adds_more : (whole es es' : List Entry) (os : List Occ) (vs : List ℕ) (i : ℕ) (o : Occ) (v : ℕ) → i < length os
    → o ≡ get_or os i o → i < length vs → v ≡ get_or vs i 0 → es' ≡ es ++ entry o.name v ∷ []
    → AddsUp whole es (drop i os) (drop i vs) → AddsUp whole es' (drop (i + 1) os) (drop (i + 1) vs)
adds_more whole es es' os vs i o v within is within' value added a = record {
  is = ap (λ xs. xs ++ entries_of (names (drop (i + 1) os)) (drop (i + 1) vs)) added
      ∙ append_assoc es (entry o.name v ∷ []) (entries_of (names (drop (i + 1) os)) (drop (i + 1) vs))
      ∙ ap (λ w. es ++ entry o.name w ∷ entries_of (names (drop (i + 1) os)) (drop (i + 1) vs)) value
      ∙ adds_next whole es os vs i o within is within' a;
}

-- there is none of the names yet
pub adds_new : (whole es : List Entry) (os : List Occ) (vs : List ℕ) (i : ℕ) (o : Occ) → AreDistinct whole
    → i < length os → o ≡ get_or os i o → i < length vs → AddsUp whole es (drop i os) (drop i vs)
    → Contains (listed_names es) o.name → ⊥
adds_new whole es os vs i o distinct within is within' a there =
    not_before es (entry o.name (get_or vs i 0)) (entries_of (names (drop (i + 1) os)) (drop (i + 1) vs))
    (subst AreDistinct (sym (adds_next whole es os vs i o within is within' a)) distinct) there

pub adds_all : (whole es : List Entry) (os : List Occ) (vs : List ℕ) (i : ℕ) → length os ≤ i
    → AddsUp whole es (drop i os) (drop i vs) → es ≡ whole
adds_all whole es os vs i end a =
    sym (append-nil es) ∙ sym (ap (λ t. es ++ entries_of (names t) (drop i vs)) (drop_all i os end)) ∙ a.is

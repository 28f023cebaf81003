-- Tables of names, one name more.
use Rattle.std.proofs.Common.{◌≡◌, ◌≢◌, ℕ, zero, suc, ◌+◌, ◌<◌, ◌≤◌, take, ◌⊎◌, inl, inr, Bool, true, false, cond, List}
use Rattle.std.proofs.Common.{[], ◌∷◌, ◌++◌, length, get_or, length-append, refl, map, sym, ◌∙◌, ap, subst, arith}
use Rattle.std.proofs.Math.Seq.{get_or-append_seam, take-length}
use Rattle.std.proofs.lemmas.List.{take_all, take_more, length-take-le, length-map, map-append, take-append-le}
use Rattle.std.proofs.lemmas.List.{get_or_append_left, get_or_default}
use Rattle.std.proofs.lemmas.List.Elements.{Contains-append_cases}
use Rattle.std.proofs.lemmas.Map.Text.{btree_map_updates_str}
use Rattle.std.proofs.lemmas.Bool.{cases_lt}
use Rattle.std.proofs.lemmas.Slice.Eq.{bytes_eq-Decides}
use Rattle.std.specs.Prelude.{Option, None, Some, is_some, is_none, IsSome, IfSome, MatchOption, Any, Contains}
use Rattle.std.specs.Borrow.{Bor}
use Rattle.std.specs.BTreeMap as tree
use Rattle.std.specs.Cmp.Lexicographic.{slice_cmp}
use Rattle.std.specs.Map.{update}
use Rattle.std.specs.Ordering.{nat_cmp}
use Rattle.std.specs.Str.{bytes_eq}
use Rattle.gh_base.specs.declared.place.Span.{Span}
use Rattle.gh_ast.specs.declared.Occ.{Occ}
use Rattle.gh_ast.specs.declared.Procedure.{Procedure}
use Rattle.gh_ast.specs.Plain.{procedure_of}
use Rattle.gh_ast.specs.Rules.{HasName, RepeatedAt}
use Rattle.gh_ast.specs.Programs.{IsFirstNamed}
use Rattle.gh_types.specs.declared.fault.Fault.{Fault}
use Rattle.gh_types.specs.Checks.{RepeatErrors}
use Rattle.gh_types.specs.Faults.{IsFirstOf, IsEarlier}
use Rattle.gh_types.proofs.FirstLemmas.{any_map, any_mapped, first_same, first_either}
use Rattle.gh_types.specs.Tables.{Table, place_in, IsFirstPlace, Finds, IsTableOf}

-- one name more, which isn't the one that is looked for, or stands earlier
finds_other : (names : List (List ℕ)) (name q : List ℕ) (o : Option ℕ) → (o ≡ None → name ≢ q) → Finds names q o
    → Finds (names ++ name ∷ []) q o
finds_other names name q None apart h = λ c. elim (Contains-append_cases names (name ∷ []) q c) [
  | inl a ↦ h a
  | inr (k, l, e) ↦ apart refl (first_of k l e)
]
  where
    first_of : (k : ℕ) → k < 1 → get_or (name ∷ []) k q ≡ q → name ≡ q
    first_of zero l e = e
    first_of (suc k) l e = absurd (omega arith)
finds_other names name q (Some k) apart h = record {
  within = omega (arith, h.within, length-append names (name ∷ []));
  here = get_or_append_left names (name ∷ []) q k h.within ∙ h.here;
  earlier = λ j d l e. h.earlier j d l (sym (get_or_append_left names (name ∷ []) d j (omega (arith, h.within))) ∙ e);
}

-- the new name itself
finds_new : (names : List (List ℕ)) (name : List ℕ) → Finds names name None
    → Finds (names ++ name ∷ []) name (Some (length names))
finds_new names name h = record {
  within = omega (arith, length-append names (name ∷ []));
  here = get_or-append_seam names name [] name;
  earlier = λ j d l e. h (j, l, there j l d (sym (get_or_append_left names (name ∷ []) d j l) ∙ e));
}
  where
    there : (j : ℕ) → j < length names → (d : List ℕ) → get_or names j d ≡ name → get_or names j name ≡ name
    there j l d e = get_or_default names j name d l ∙ e

-- a table by what it has for each name
pub finds : (names : List (List ℕ)) (t : Table) → IsTableOf names t → (name : List ℕ)
    → Finds names name (place_in t name)
finds names t h name = by_case (place_in t name) refl
  where
    by_case : (o : Option ℕ) → place_in t name ≡ o → Finds names name o
    by_case None e = h.absent name e
    by_case (Some k) e = h.present name k e

table_by : (names : List (List ℕ)) (t : Table) → ((name : List ℕ) → Finds names name (place_in t name))
    → IsTableOf names t
table_by names t f = record {
  absent = λ name e. subst (Finds names name) e (f name);
  present = λ name k e. subst (Finds names name) e (f name);
}

-- what a table has after an entry was added
abbrev pub IsUpdated : Table → List ℕ → ℕ → Table → Type 0
IsUpdated t name place n =
    tree.UpdatesBy (λ x y. slice_cmp nat_cmp x.now y.now) (λ k. slice_cmp nat_cmp name k.now) t n (Some place)

pub table_more : (names : List (List ℕ)) (name : List ℕ) (place : ℕ) (t n : Table) → place ≡ length names
    → place_in t name ≡ None → IsUpdated t name place n → IsTableOf names t → IsTableOf (names ++ name ∷ []) n
table_more names name place t n p none u h =
    table_by (names ++ name ∷ []) n (λ q.
    let new : place_in n q ≡ update bytes_eq (place_in t) name (Some place) q =
    btree_map_updates_str name t n (Some place) u q in
    by_test q (bytes_eq name q) refl new)
  where
    by_test : (q : List ℕ) (b : Bool) → bytes_eq name q ≡ b
        → place_in n q ≡ cond (bytes_eq name q) (Some place) (place_in t q)
        → Finds (names ++ name ∷ []) q (place_in n q)
    by_test q true b e =
        let same : name ≡ q = (bytes_eq-Decides name q).0 b in
        let found : place_in n q ≡ Some (length names) = rw (e, b, p) refl in
        rw found (rw (← same) (finds_new names name (subst (Finds names name) none (finds names t h name))))
    by_test q false b e =
        let found : place_in n q ≡ place_in t q = rw (e, b) refl in
        rw found (finds_other names name q (place_in t q)
        (λ _ same. let t : bytes_eq name q ≡ true = (bytes_eq-Decides name q).1 same in cc) (finds names t h q))

-- an option that isn't some
pub none_of : {X : Type 0} (o : Option X) → is_some o ≡ false → o ≡ None
none_of None e = refl
none_of (Some x) e = cc

-- one name more among names: where it stands earlier, it is a repeated one
pub repeated_still : (os : List Occ) (o : Occ) (s : Span) → RepeatedAt os s → RepeatedAt (os ++ o ∷ []) s
repeated_still os o s h = record {
  here = h.here;
  place = h.place;
  within = omega (arith, h.within, length-append os (o ∷ []));
  element = get_or_append_left os (o ∷ []) h.here h.place h.within ∙ h.element;
  earlier = let fits : h.place ≤ length os = omega (arith, h.within) in rw take-append-le h.earlier;
  span = h.span;
}

pub repeated_here : (os : List Occ) (o : Occ) → HasName os o.name → RepeatedAt (os ++ o ∷ []) o.span
repeated_here os o h = record {
  here = o;
  place = length os;
  within = omega (arith, length-append os (o ∷ []));
  element = get_or-append_seam os o [] o;
  earlier = let fits : length os ≤ length os = omega arith in rw (take-append-le, take-length) h;
  span = refl;
}

pub repeated_cases : (os : List Occ) (o : Occ) (s : Span) → RepeatedAt (os ++ o ∷ []) s
    → RepeatedAt os s ⊎ (HasName os o.name × (o.span ≡ s))
repeated_cases os o s h = elim (cases_lt h.place (length os)) [
  | inl l ↦ inl (record {
    here = h.here;
    place = h.place;
    within = l;
    element = sym (get_or_append_left os (o ∷ []) h.here h.place l) ∙ h.element;
    earlier = let fits : h.place ≤ length os = omega arith in
        subst (λ (xs : List Occ). HasName xs h.here.name) (take-append-le h.place os (o ∷ []) fits) h.earlier;
    span = h.span;
  })
  | inr l ↦
      let last : h.place ≡ length os = omega (arith, h.within, length-append os (o ∷ [])) in
      let same : o ≡ h.here =
      sym (get_or-append_seam os o [] h.here) ∙ (ap (λ k. get_or (os ++ o ∷ []) k h.here) (sym last) ∙ h.element) in
      let fits : h.place ≤ length os = omega arith in
      let front : take h.place (os ++ o ∷ []) ≡ os =
      take-append-le h.place os (o ∷ []) fits ∙ (ap (λ k. take k os) last ∙ take-length os) in
      inr (
        subst (λ (n : List ℕ). HasName os n) (ap (λ x. x.name) (sym same))
            (subst (λ (xs : List Occ). HasName xs h.here.name) front h.earlier),
        ap (λ x. x.span) same ∙ h.span,
      )
]

any_contained : {X : Type 0} (xs : List X) (x : X) → Any (λ y. y ≡ x) xs → Contains xs x
any_contained xs x (k, y, l, e, p) = (k, l, get_or_default xs k x y l ∙ (e ∙ p))

-- a name of some occurrences, and of the list of their names
pub name_contained : (os : List Occ) (name : List ℕ) → HasName os name → Contains (map (λ o. o.name) os) name
name_contained os name h = any_contained (map (λ o. o.name) os) name (any_mapped (λ m. m ≡ name) (λ o. o.name) os h)

pub contained_name : (os : List Occ) (name : List ℕ) → Contains (map (λ o. o.name) os) name → HasName os name
contained_name os name (k, l, e) = any_map (λ m. m ≡ name) (λ o. o.name) os (k, name, l, e, refl)

-- what a table of the names finds tells whether a name is there
pub found_named : (os : List Occ) (name : List ℕ) (found : Option ℕ) → Finds (map (λ o. o.name) os) name found
    → is_none found ≡ false → HasName os name
found_named os name None h e = cc
found_named os name (Some k) h e = contained_name os name (k, h.within, h.here)

pub named_found : (os : List Occ) (name : List ℕ) (found : Option ℕ) → Finds (map (λ o. o.name) os) name found
    → HasName os name → is_none found ≡ false
named_found os name None h n = absurd (h (name_contained os name n))
named_found os name (Some k) h n = refl

-- the errors of one occurrence more
pub repeat_step : (number : ℕ) (os : List Occ) (o : Occ) (found : Option ℕ) (new : Bool) (a x r : Option Fault)
    → Finds (map (λ o. o.name) os) o.name found → new ≡ is_none found → IsEarlier a x r
    → IsFirstOf (RepeatErrors number os) a → IsFirstOf (λ n s. (new ≡ false) × (n ≡ number) × (o.span ≡ s)) x
    → IsFirstOf (RepeatErrors number (os ++ o ∷ [])) r
repeat_step number os o found new a x r f e i h g = first_same _ _ r forth back (first_either _ _ a x r i h g)
  where
    forth : (n : ℕ) (s : Span) → RepeatErrors number os n s ⊎ ((new ≡ false) × (n ≡ number) × (o.span ≡ s))
        → RepeatErrors number (os ++ o ∷ []) n s
    forth n s (inl (c, k)) = (c, repeated_still os o s k)
    forth n s (inr (c, d, p)) =
        (d, subst (RepeatedAt _) p (repeated_here os o (found_named os o.name found f (sym e ∙ c))))

    back : (n : ℕ) (s : Span) → RepeatErrors number (os ++ o ∷ []) n s
        → RepeatErrors number os n s ⊎ ((new ≡ false) × (n ≡ number) × (o.span ≡ s))
    back n s (c, k) =
        elim (repeated_cases os o s k)
        [ inl k ↦ inl (c, k) | inr (m, p) ↦ inr (e ∙ named_found os o.name found f m, c, p) ]

-- one turn of a walk
pub map_more : {X Y : Type 0} (f : X → Y) (xs : List X) (k : ℕ) (x : X) → k < length xs → x ≡ get_or xs k x
    → map f (take (k + 1) xs) ≡ map f (take k xs) ++ f x ∷ []
map_more f xs k x h e = rw (take_more xs k x h, ← e) (map-append f (take k xs) (x ∷ []))

pub length_of_front : {X Y : Type 0} (f : X → Y) (xs : List X) (k : ℕ) → k < length xs → k ≡ length (map f (take k xs))
length_of_front f xs k h = let fits : k ≤ length xs = omega arith in rw (length-map, length-take-le) refl

pub map_all : {X Y : Type 0} (f : X → Y) (xs : List X) (k : ℕ) → length xs ≤ k → map f (take k xs) ≡ map f xs
map_all f xs k h = ap (map f) (take_all k xs h)

-- a name that is there already
pub table_same : (names : List (List ℕ)) (name : List ℕ) (t : Table) → is_some (place_in t name) ≡ true
    → IsTableOf names t → IsTableOf (names ++ name ∷ []) t
table_same names name t there h =
    table_by (names ++ name ∷ []) t (λ q. finds_other names name q (place_in t q) (apart q) (finds names t h q))
  where
    apart : (q : List ℕ) → place_in t q ≡ None → name ≡ q → ⊥
    apart q none same =
        let e : is_some (place_in t name) ≡ false = ap (λ n. is_some (place_in t n)) same ∙ ap is_some none in cc

-- a table tells whether a name is there
pub table_tells : (os : List Occ) (name : List ℕ) (t : Table) → IsTableOf (map (λ o. o.name) os) t
    → (is_some (place_in t name) ≡ true → HasName os name) × (HasName os name → is_some (place_in t name) ≡ true)
table_tells os name t h = by_case (place_in t name) (finds (map (λ o. o.name) os) t h name)
  where
    by_case : (o : Option ℕ) → Finds (map (λ o. o.name) os) name o
        → (is_some o ≡ true → HasName os name) × (HasName os name → is_some o ≡ true)
    by_case None f = (λ e. cc, λ n. absurd (f (name_contained os name n)))
    by_case (Some k) f = (λ _. found_named os name (Some k) f refl, λ _. refl)

map_at : {X Y : Type 0} (f : X → Y) (xs : List X) (k : ℕ) (x : X) → k < length xs → x ≡ get_or xs k x
    → get_or (map f xs) k (f x) ≡ f x
map_at f [] k x h e = absurd (omega arith)
map_at f (y ∷ xs) zero x h e = ap f (sym e)
map_at f (y ∷ xs) (suc k) x h e = map_at f xs k x (omega arith) e

-- the procedure that a name means, by the first place of the name
pub meant_there : (ps : List Procedure) (name : List ℕ) (k : ℕ) (p : Procedure)
    → IsFirstPlace (map (λ r. r.name.name) ps) name k → p ≡ get_or ps k p
    → IsFirstNamed (map procedure_of ps) name (procedure_of p)
meant_there [] name k p h e = absurd (omega (arith, h.within))
meant_there (q ∷ ps) name zero p h e = inl (h.here, ap procedure_of e)
meant_there (q ∷ ps) name (suc k) p h e = inr (h.earlier 0 name (omega arith), meant_there ps name k p later e)
  where
    later : IsFirstPlace (map (λ r. r.name.name) ps) name k
    later = record {
      within = omega (arith, h.within);
      here = h.here;
      earlier = λ j d l. h.earlier (suc j) d (omega (arith, l));
    }

pub meant_nowhere : (ps : List Procedure) (name : List ℕ) → (Contains (map (λ r. r.name.name) ps) name → ⊥)
    → Any (λ r. r.name.name ≡ name) (map procedure_of ps) → ⊥
meant_nowhere ps name none a =
    none (any_contained (map (λ r. r.name.name) ps) name
    (any_mapped (λ m. m ≡ name) (λ r. r.name.name) ps (any_map (λ r. r.name.name ≡ name) procedure_of ps a)))

-- what the list of procedures has at the place of a name
pub meant_got : (ps : List Procedure) (name : List ℕ) (k : ℕ) (o : Option (Bor Procedure))
    → IsFirstPlace (map (λ r. r.name.name) ps) name k
    → IfSome o (λ x. x.now ≡ get_or ps k x.now) → (k < length ps → IsSome o)
    → MatchOption o (Any (λ r. r.name.name ≡ name) (map procedure_of ps) → ⊥)
    (λ r. IsFirstNamed (map procedure_of ps) name (procedure_of r.now))
meant_got ps name k None h got some =
    let no : is_some {T = Bor Procedure} None ≡ true = some (rw length-map at h.within) in cc
meant_got ps name k (Some x) h got some = meant_there ps name k x.now h got

pub map_twice : {X Y Z : Type 0} (f : X → Y) (g : Y → Z) (xs : List X) → map g (map f xs) ≡ map (λ x. g (f x)) xs
map_twice f g [] = refl
map_twice f g (x ∷ xs) = ap (λ ys. g (f x) ∷ ys) (map_twice f g xs)

-- Values for the terms of a walk.
use Rattle.std.specs.Prelude.{◌≡◌, ◌⊎◌, ℕ, zero, suc, List, [], ◌∷◌, ◌++◌, length, map, slice_get, unwrap_or, Option}
use Rattle.std.specs.Prelude.{Some, None, Bool, true, false, cond, Contains}
use Rattle.std.specs.List.{list_any}
use Rattle.std.proofs.Common.{refl, sym, ◌∙◌, ap, inl, inr, arith}
use Rattle.std.proofs.lemmas.List.{length-append}
use Rattle.gh_ast.specs.declared.Operand.{Operand}
use Rattle.gh_ast.specs.declared.Operand.TheVariants.{Null, Var}
use Rattle.gh_ast.specs.declared.Expr.{Expr}
use Rattle.gh_ast.specs.declared.Expr.TheVariants.{Plain, Read}
use Rattle.gh_ast.specs.Plain.{Cond, compare, negation, conjunction, disjunction, Conds, no_conds, cond_first}
use Rattle.gh_ast.specs.Plain.{Assertion, empty, comparison, points_to, cell, segment, star, cases, Assertions}
use Rattle.gh_ast.specs.Plain.{no_assertions, assertion_first}
use Rattle.gh_ast.specs.Programs.{Name}
use Rattle.gh_ast.proofs.Lists.{member_cases, no_member}
use Rattle.gh_assert.specs.Heaps.{Heap}
use Rattle.gh_assert.specs.Meaning.{Store}
use Rattle.gh_assert.specs.Walks.{succ}
use Rattle.gh_path.specs.Terms.{Kind, next, same_kind, with_value, Bindings, bound, all_bound, Terms, terms, used}
use Rattle.gh_path.specs.Terms.{used_as, term_of, followed, operand_used, expr_used, exprs_used, cond_walked}
use Rattle.gh_path.specs.Terms.{conds_walked, walked, all_walked, each_walked, renewed}
use Rattle.gh_model.proofs.terms.Extension.{used_bound, bound_same, bound_cases}
use Rattle.gh_model.proofs.terms.Denotation.{Sound}
use Rattle.gh_model.proofs.terms.Callees.{Gives}

-- all values of the first list stand in the second
abbrev pub More : List ℕ → List ℕ → Type 0
More V W = (t v : ℕ) → slice_get V t ≡ Some v → slice_get W t ≡ Some v

pub front_of : (V : List ℕ) (v : ℕ) → More V (V ++ v ∷ [])
front_of [] v t w e = absurd cc
front_of (u ∷ us) v zero w e = e
front_of (u ∷ us) v (suc t) w e = front_of us v t w e

pub last_of : (V : List ℕ) (v : ℕ) → slice_get (V ++ v ∷ []) (length V) ≡ Some v
last_of [] v = refl
last_of (u ∷ us) v = last_of us v

pub snoc_cases : (ks : List Kind) (k : Kind) (t : ℕ) (l : Kind) → slice_get (ks ++ k ∷ []) t ≡ Some l
    → (slice_get ks t ≡ Some l) ⊎ ((t ≡ length ks) × (k ≡ l))
snoc_cases [] k zero l e = inr (refl, cc)
snoc_cases [] k (suc t) l e = absurd cc
snoc_cases (u ∷ us) k zero l e = inl e
snoc_cases (u ∷ us) k (suc t) l e =
    elim (snoc_cases us k t l e) [ inl old ↦ inl old | inr (at, same) ↦ inr (ap (λ n. suc n) at, same) ]

-- a value for each kind; H has the heap of each version
pub record IsKindValuation (H : ℕ → Heap) (V : List ℕ) (ks : List Kind) : Type 0 where
  pub count : length V ≡ length ks
  pub null : slice_get V 0 ≡ Some 0
  pub follows : (t i u : ℕ) → slice_get ks t ≡ Some (next i u)
      → (v : ℕ) × (slice_get V u ≡ Some v) × (slice_get V t ≡ Some (succ (H i) v))

one_longer : (V : List ℕ) (v : ℕ) (ks : List Kind) (k : Kind) → length V ≡ length ks
    → length (V ++ v ∷ []) ≡ length (ks ++ k ∷ [])
one_longer V v ks k e = rw (length-append V) (rw (length-append ks) (omega arith))

pub value_more : (H : ℕ → Heap) (V : List ℕ) (ks : List Kind) (v : ℕ) → IsKindValuation H V ks
    → IsKindValuation H (V ++ v ∷ []) (with_value ks)
value_more H V ks v S = record {
  count = one_longer V v ks _ S.count;
  null = front_of V v 0 0 S.null;
  follows = λ t i u e. elim (snoc_cases ks _ t (next i u) e) [
    | inl old ↦ let f = S.follows t i u old in (f.0, front_of V v u f.0 f.1, front_of V v t (succ (H i) f.0) f.2)
    | inr (at, same) ↦ absurd cc
  ];
}

version_same : (i u j w : ℕ) → next i u ≡ next j w → (i ≡ j) × (u ≡ w)
version_same i u j w e = (cc, cc)

next_more : (H : ℕ → Heap) (V : List ℕ) (ks : List Kind) (i u v : ℕ) → slice_get V u ≡ Some v → IsKindValuation H V ks
    → IsKindValuation H (V ++ succ (H i) v ∷ []) (ks ++ next i u ∷ [])
next_more H V ks i u v a S = record {
  count = one_longer V (succ (H i) v) ks (next i u) S.count;
  null = front_of V (succ (H i) v) 0 0 S.null;
  follows = λ t j w e. elim (snoc_cases ks (next i u) t (next j w) e) [
    | inl old ↦ let f = S.follows t j w old in
        (f.0, front_of V (succ (H i) v) w f.0 f.1, front_of V (succ (H i) v) t (succ (H j) f.0) f.2)
    | inr (at, same) ↦
        let both = version_same i u j w same in (
          v,
          ap (slice_get (V ++ succ (H i) v ∷ [])) (sym both.1) ∙ front_of V (succ (H i) v) u v a,
          ap (slice_get (V ++ succ (H i) v ∷ [])) (at ∙ sym S.count) ∙ last_of V (succ (H i) v)
              ∙ ap (λ k. Some (succ (H k) v)) both.0,
        )
  ];
}

-- kinds and variables
pub record IsValuation (H : ℕ → Heap) (V : List ℕ) (st : Store) (s : Terms) : Type 0 where
  pub kinds : IsKindValuation H V s.kinds
  pub gives : Gives V st s.bindings

-- more values, for the terms of a walk
pub record Extended (H : ℕ → Heap) (V : List ℕ) (st : Store) (t : Terms) : Type 0 where
  pub values : List ℕ
  pub more : More V values
  pub valued : IsValuation H values st t

pub done : (H : ℕ → Heap) (V : List ℕ) (st : Store) (s : Terms) → IsValuation H V st s → Extended H V st s
done H V st s S = record { values = V; more = λ t v e. e; valued = S }

pub later : (H : ℕ → Heap) (V : List ℕ) (st : Store) (s t : Terms) → Extended H V st s
    → ((W : List ℕ) → IsValuation H W st s → Extended H W st t) → Extended H V st t
later H V st s t E go = let F = go E.values E.valued in
    record { values = F.values; more = λ j v e. F.more j v (E.more j v e); valued = F.valued }

pub gives_more : (V W : List ℕ) (st : Store) (b : Bindings) → More V W → Gives V st b → Gives W st b
gives_more V W st b m G y t e = m t (st y) (G y t e)

-- one more value, for a variable
pub bound_more : (V : List ℕ) (st : Store) (b : Bindings) (x : Name) (n : ℕ) → length V ≡ n → Gives V st b
    → Gives (V ++ st x ∷ []) st (bound b x n)
bound_more V st b x n count G y t e = elim (bound_cases b x n y t e) [
  | inl (same, at) ↦ ap (slice_get (V ++ st x ∷ [])) (sym at ∙ sym count) ∙ last_of V (st x)
      ∙ ap (λ z. Some (st z)) (sym same)
  | inr old ↦ front_of V (st x) t (st y) (G y t old)
]

pub used_valued : (H : ℕ → Heap) (V : List ℕ) (st : Store) (x : Name) (s : Terms) → IsValuation H V st s
    → Extended H V st (used x s)
used_valued H V st x s S = by_binding (s.bindings x)
  where
    by_binding : (o : Option ℕ) → Extended H V st (used_as x o s)
    by_binding (Some t) = done H V st s S
    by_binding None = record {
      values = V ++ st x ∷ [];
      more = front_of V (st x);
      valued = record {
        kinds = value_more H V s.kinds (st x) S.kinds;
        gives = bound_more V st s.bindings x (length s.kinds) S.kinds.count S.gives;
      };
    }

followed_valued : (H : ℕ → Heap) (V : List ℕ) (st : Store) (x : Name) (s : Terms) (t : ℕ) → s.bindings x ≡ Some t
    → IsValuation H V st s → Extended H V st (followed x s)
followed_valued H V st x s t known S = by_test (list_any (same_kind (next s.version (term_of x s))) s.kinds)
  where
    by_test : (b : Bool) → Extended H V st
        (terms (cond b s.kinds (s.kinds ++ next s.version (term_of x s) ∷ [])) s.bindings s.version)
    by_test true = done H V st s S
    by_test false = record {
      values = V ++ succ (H s.version) (st x) ∷ [];
      more = front_of V (succ (H s.version) (st x));
      valued = record {
        kinds =
            next_more H V s.kinds s.version (term_of x s) (st x)
            (ap (λ o. slice_get V (unwrap_or o 0)) known ∙ S.gives x t known) S.kinds;
        gives =
            gives_more V (V ++ succ (H s.version) (st x) ∷ []) st s.bindings (front_of V (succ (H s.version) (st x)))
            S.gives;
      };
    }

pub visited_valued : (H : ℕ → Heap) (V : List ℕ) (st : Store) (x : Name) (s : Terms) → IsValuation H V st s
    → Extended H V st (followed x (used x s))
visited_valued H V st x s S =
    later H V st (used x s) (followed x (used x s)) (used_valued H V st x s S)
    (λ W T. let b = used_bound x s in followed_valued H W st x (used x s) b.0 b.1 T)

pub operand_valued : (H : ℕ → Heap) (V : List ℕ) (st : Store) (o : Operand) (s : Terms) → IsValuation H V st s
    → Extended H V st (operand_used o s)
operand_valued H V st (Null p) s S = done H V st s S
operand_valued H V st (Var o) s S = used_valued H V st o.name s S

pub expr_valued : (H : ℕ → Heap) (V : List ℕ) (st : Store) (e : Expr) (s : Terms) → IsValuation H V st s
    → Extended H V st (expr_used e s)
expr_valued H V st (Plain o) s S = operand_valued H V st o s S
expr_valued H V st (Read o) s S = visited_valued H V st o.name s S

pub exprs_valued : (H : ℕ → Heap) (V : List ℕ) (st : Store) (es : List Expr) (s : Terms) → IsValuation H V st s
    → Extended H V st (exprs_used es s)
exprs_valued H V st [] s S = done H V st s S
exprs_valued H V st (e ∷ es) s S =
    later H V st (expr_used e s) (exprs_used (e ∷ es) s) (expr_valued H V st e s S)
    (λ W T. exprs_valued H W st es (expr_used e s) T)

mutual
  test_valued : (H : ℕ → Heap) (st : Store) (t : Cond) (V : List ℕ) (s : Terms) → IsValuation H V st s
      → Extended H V st (cond_walked t s)
  test_valued H st (compare l e r) V s S =
      later H V st (expr_used l s) (expr_used r (expr_used l s)) (expr_valued H V st l s S)
      (λ W T. expr_valued H W st r (expr_used l s) T)
  test_valued H st (negation t) V s S = test_valued H st t V s S
  test_valued H st (conjunction ts) V s S = tests_valued H st ts V s S
  test_valued H st (disjunction ts) V s S = tests_valued H st ts V s S

  tests_valued : (H : ℕ → Heap) (st : Store) (ts : Conds) (V : List ℕ) (s : Terms) → IsValuation H V st s
      → Extended H V st (conds_walked ts s)
  tests_valued H st no_conds V s S = done H V st s S
  tests_valued H st (cond_first t ts) V s S =
      later H V st (cond_walked t s) (conds_walked ts (cond_walked t s)) (test_valued H st t V s S)
      (λ W T. tests_valued H st ts W (cond_walked t s) T)

mutual
  pub walked_valued : (H : ℕ → Heap) (st : Store) (f : Assertion) (V : List ℕ) (s : Terms) → IsValuation H V st s
      → Extended H V st (walked f s)
  walked_valued H st empty V s S = done H V st s S
  walked_valued H st (comparison l e r) V s S =
      later H V st (operand_used l s) (operand_used r (operand_used l s)) (operand_valued H V st l s S)
      (λ W T. operand_valued H W st r (operand_used l s) T)
  walked_valued H st (points_to x y) V s S =
      let t = followed x.name (used x.name s) in
      later H V st t (operand_used y t) (visited_valued H V st x.name s S) (λ W T. operand_valued H W st y t T)
  walked_valued H st (cell x) V s S = visited_valued H V st x.name s S
  walked_valued H st (segment x y) V s S =
      later H V st (operand_used x s) (operand_used y (operand_used x s)) (operand_valued H V st x s S)
      (λ W T. operand_valued H W st y (operand_used x s) T)
  walked_valued H st (star fs) V s S = all_valued H st fs V s S
  walked_valued H st (cases t f g) V s S =
      let r = cond_walked t s in
      later H V st (walked f r) (walked g (walked f r))
      (later H V st r (walked f r) (test_valued H st t V s S) (λ W T. walked_valued H st f W r T))
      (λ W T. walked_valued H st g W (walked f r) T)

  all_valued : (H : ℕ → Heap) (st : Store) (fs : Assertions) (V : List ℕ) (s : Terms) → IsValuation H V st s
      → Extended H V st (all_walked fs s)
  all_valued H st no_assertions V s S = done H V st s S
  all_valued H st (assertion_first f fs) V s S =
      later H V st (walked f s) (all_walked fs (walked f s)) (walked_valued H st f V s S)
      (λ W T. all_valued H st fs W (walked f s) T)

-- bindings that give the values of a store but for some names
abbrev pub GivesBut : List Name → List ℕ → Store → Bindings → Type 0
GivesBut xs V st b = (y : Name) (t : ℕ) → b y ≡ Some t → Contains xs y ⊎ (slice_get V t ≡ Some (st y))

pub same_term : (t u : ℕ) → Some t ≡ Some u → t ≡ u
same_term t u e = cc

-- a name is bound anew
one_fewer : (V : List ℕ) (st : Store) (b : Bindings) (x : Name) (xs : List Name) (n : ℕ) → slice_get V n ≡ Some (st x)
    → GivesBut (x ∷ xs) V st b → GivesBut xs V st (bound b x n)
one_fewer V st b x xs n at G y t e = elim (bound_cases b x n y t e) [
  | inl (same, is) ↦ inr (ap (slice_get V) (sym is) ∙ at ∙ ap (λ z. Some (st z)) (sym same))
  | inr old ↦ elim (G y t old) [
    | inr got ↦ inr got
    | inl c ↦ elim (member_cases x xs y c) [
      | inl same ↦ inr (ap (slice_get V) (same_term t n (sym e ∙ ap (bound b x n) (sym same) ∙ bound_same b x n)) ∙ at
          ∙ ap (λ z. Some (st z)) same)
      | inr more ↦ inl more
    ]
  ]
]

none_left : (V : List ℕ) (st : Store) (b : Bindings) → GivesBut [] V st b → Gives V st b
none_left V st b G y t e = elim (G y t e) [ inl none ↦ absurd (no_member y none) | inr got ↦ got ]

but_more : (xs : List Name) (V W : List ℕ) (st : Store) (b : Bindings) → More V W → GivesBut xs V st b
    → GivesBut xs W st b
but_more xs V W st b m G y t e = elim (G y t e) [ inl c ↦ inl c | inr got ↦ inr (m t (st y) got) ]

pub renewed_valued : (H : ℕ → Heap) (st : Store) (xs : List Name) (V : List ℕ) (s : Terms) → IsKindValuation H V s.kinds
    → GivesBut xs V st s.bindings → Extended H V st (renewed xs s)
renewed_valued H st [] V s K G =
    record { values = V; more = λ t v e. e; valued = record { kinds = K; gives = none_left V st s.bindings G } }
renewed_valued H st (x ∷ xs) V s K G =
    let W : List ℕ = V ++ st x ∷ [] in
    let s' : Terms = terms (with_value s.kinds) (bound s.bindings x (length s.kinds)) s.version in
    let at : slice_get W (length s.kinds) ≡ Some (st x) = ap (slice_get W) (sym K.count) ∙ last_of V (st x) in
    let E =
    renewed_valued H st xs W s' (value_more H V s.kinds (st x) K)
    (one_fewer W st s.bindings x xs (length s.kinds) at
    (but_more (x ∷ xs) V W st s.bindings (front_of V (st x)) G)) in
    record { values = E.values; more = λ t v e. E.more t v (front_of V (st x) t v e); valued = E.valued }

options_same : (a b : Option ℕ) (as' bs : List (Option ℕ)) → a ∷ as' ≡ b ∷ bs → (a ≡ b) × (as' ≡ bs)
options_same a b as' bs e = (cc, cc)

numbers_same : (a b : ℕ) (as' bs : List ℕ) → a ∷ as' ≡ b ∷ bs → (a ≡ b) × (as' ≡ bs)
numbers_same a b as' bs e = (cc, cc)

-- names that get the values of some terms, all at once
pub assigned_give : (V : List ℕ) (st : Store) (xs : List Name) (b : Bindings) (ts vs : List ℕ)
    → map (slice_get V) ts ≡ map Some vs → map st xs ≡ vs → GivesBut xs V st b → Gives V st (all_bound b xs ts)
assigned_give V st [] b ts vs e f G = none_left V st b G
assigned_give V st (x ∷ xs) b ts [] e f G = absurd cc
assigned_give V st (x ∷ xs) b [] (v ∷ vs) e f G = absurd cc
assigned_give V st (x ∷ xs) b (t ∷ ts) (v ∷ vs) e f G =
    let e' = options_same (slice_get V t) (Some v) (map (slice_get V) ts) (map Some vs) e in
    let f' = numbers_same (st x) v (map st xs) vs f in
    assigned_give V st xs (bound b x t) ts vs e'.1 f'.1 (one_fewer V st b x xs t (e'.0 ∙ ap Some (sym f'.0)) G)

pub sound_of : (H : ℕ → Heap) (V : List ℕ) (st : Store) (h : Heap) (s : Terms) → H s.version ≡ h → IsValuation H V st s
    → Sound s.kinds V st h s
sound_of H V st h s at S = record {
  null = S.kinds.null;
  kinds = λ i k e. e;
  next = λ t u v e a.
      let f = S.kinds.follows t s.version u e in
      f.2 ∙ ap (λ w. Some (succ (H s.version) w)) (same_term f.0 v (sym f.1 ∙ a)) ∙ ap (λ k. Some (succ k v)) at;
  bound = S.gives;
}

-- alternatives
pub each_valued : (H : ℕ → Heap) (st : Store) (fs : List Assertion) (V : List ℕ) (s : Terms) → IsValuation H V st s
    → Extended H V st (each_walked fs s)
each_valued H st [] V s S = done H V st s S
each_valued H st (f ∷ fs) V s S =
    later H V st (walked f s) (each_walked (f ∷ fs) s) (walked_valued H st f V s S)
    (λ W T. each_valued H st fs W (walked f s) T)

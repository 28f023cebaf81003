-- A walk adds terms, and binds variables that have none.
use Rattle.std.specs.Prelude.{◌≡◌, ◌⊎◌, ◌<◌, ℕ, zero, suc, ◌+◌, List, [], ◌∷◌, ◌++◌, length, slice_get, Option, Some}
use Rattle.std.specs.Prelude.{None, Bool, true, false, ◌==◌, ◌&&◌, ◌||◌, not, unwrap_or, cond}
use Rattle.std.specs.List.{list_any, position_or_len}
use Rattle.std.specs.Str.{bytes_eq}
use Rattle.std.proofs.Common.{refl, sym, ◌∙◌, ap, inl, inr, arith}
use Rattle.std.proofs.lemmas.Bool.{cases_Bool, eqb-true, eq-eqb, lt-ltb, false≢true}
use Rattle.std.proofs.lemmas.Slice.Eq.{bytes_eq-Decides}
use Rattle.gh_ast.specs.declared.Operand.{Operand}
use Rattle.gh_ast.specs.declared.Operand.TheVariants.{Null, Var}
use Rattle.gh_ast.specs.declared.Expr.{Expr}
use Rattle.gh_ast.specs.declared.Expr.TheVariants.{Plain, Read}
use Rattle.gh_ast.specs.Plain.{Cond, compare, negation, conjunction, disjunction, Conds, no_conds, cond_first}
use Rattle.gh_ast.specs.Plain.{Assertion, empty, comparison, points_to, cell, segment, star, cases, Assertions}
use Rattle.gh_ast.specs.Plain.{no_assertions, assertion_first}
use Rattle.gh_ast.specs.Programs.{Name}
use Rattle.gh_path.specs.Terms.{Kind, null, value, next, same_kind, added, with_value, Bindings, bound, Terms, used}
use Rattle.gh_path.specs.Terms.{used_as, term_of, followed, operand_used, expr_used, exprs_used, cond_walked}
use Rattle.gh_path.specs.Terms.{conds_walked, walked, all_walked, each_walked, place}

abbrev pub Within : List Kind → List Kind → Type 0
Within ks ls = (i : ℕ) (k : Kind) → slice_get ks i ≡ Some k → slice_get ls i ≡ Some k

pub record Grows (s t : Terms) : Type 0 where
  pub kinds : Within s.kinds t.kinds
  pub bindings : (y : Name) (j : ℕ) → s.bindings y ≡ Some j → t.bindings y ≡ Some j
  pub version : t.version ≡ s.version

pub stays : (s : Terms) → Grows s s
stays s = record { kinds = λ i k e. e; bindings = λ y j e. e; version = refl }

pub onto : {r s t : Terms} → Grows r s → Grows s t → Grows r t
onto {r} {s} {t} a b = record {
  kinds = λ i k e. b.kinds i k (a.kinds i k e);
  bindings = λ y j e. b.bindings y j (a.bindings y j e);
  version = b.version ∙ a.version;
}

pub at_front : (ks rest : List Kind) → Within ks (ks ++ rest)
at_front [] rest i k e = absurd cc
at_front (u ∷ us) rest zero k e = e
at_front (u ∷ us) rest (suc i) k e = at_front us rest i k e

end_there : (ks : List Kind) (k : Kind) → (j : ℕ) × (slice_get (ks ++ k ∷ []) j ≡ Some k)
end_there [] k = (0, refl)
end_there (u ∷ us) k = let r = end_there us k in (suc r.0, r.1)

pub value_within : (ks : List Kind) → Within ks (with_value ks)
value_within ks = at_front ks _

added_within : (k : Kind) (ks : List Kind) → Within ks (added k ks)
added_within k ks = by_test (list_any (same_kind k) ks)
  where
    by_test : (b : Bool) → Within ks (cond b ks (ks ++ k ∷ []))
    by_test true = λ i l e. e
    by_test false = at_front ks (k ∷ [])

both_true : (a b : Bool) → (a && b) ≡ true → (a ≡ true) × (b ≡ true)
both_true true b e = (refl, e)
both_true false b e = absurd (false≢true e)

both_tests : (a b : Bool) → a ≡ true → b ≡ true → (a && b) ≡ true
both_tests true b e f = f
both_tests false b e f = absurd (false≢true e)

same_next : (i x : ℕ) (k : Kind) → same_kind (next i x) k ≡ true → k ≡ next i x
same_next i x null e = absurd (false≢true e)
same_next i x (value n) e = absurd (false≢true e)
same_next i x (next j y) e =
    let both = both_true (i == j) (x == y) e in
    ap (λ a. next a y) (sym (eqb-true i j both.0)) ∙ ap (next i) (sym (eqb-true x y both.1))

either_true : (a b : Bool) → (a || b) ≡ true → (a ≡ true) ⊎ (b ≡ true)
either_true true b e = inl refl
either_true false b e = inr e

any_there : (i x : ℕ) (ks : List Kind) → list_any (same_kind (next i x)) ks ≡ true
    → (j : ℕ) × (slice_get ks j ≡ Some (next i x))
any_there i x [] e = absurd (false≢true e)
any_there i x (k ∷ ks) e = elim (either_true (same_kind (next i x) k) (list_any (same_kind (next i x)) ks) e) [
  | inl on ↦ (0, ap Some (same_next i x k on))
  | inr later ↦ let r = any_there i x ks later in (suc r.0, r.1)
]

added_there : (i x : ℕ) (ks : List Kind) → (j : ℕ) × (slice_get (added (next i x) ks) j ≡ Some (next i x))
added_there i x ks = by_test (list_any (same_kind (next i x)) ks) refl
  where
    by_test : (b : Bool) → list_any (same_kind (next i x)) ks ≡ b
        → (j : ℕ) × (slice_get (cond b ks (ks ++ next i x ∷ [])) j ≡ Some (next i x))
    by_test true on = any_there i x ks on
    by_test false off = end_there ks (next i x)

pub bound_same : (b : Bindings) (x : Name) (t : ℕ) → bound b x t x ≡ Some t
bound_same b x t = ap (λ c. cond c (Some t) (b x)) ((bytes_eq-Decides x x).1 refl)

pub bound_cases : (b : Bindings) (x : Name) (t : ℕ) (y : Name) (j : ℕ) → bound b x t y ≡ Some j
    → ((y ≡ x) × (t ≡ j)) ⊎ (b y ≡ Some j)
bound_cases b x t y j e = by_test (bytes_eq y x) refl e
  where
    by_test : (c : Bool) → bytes_eq y x ≡ c → cond c (Some t) (b y) ≡ Some j → ((y ≡ x) × (t ≡ j)) ⊎ (b y ≡ Some j)
    by_test true on f = inl ((bytes_eq-Decides y x).0 on, cc)
    by_test false off f = inr f

-- a variable without a term is another than one with a term
bound_other : (b : Bindings) (x : Name) (t : ℕ) → b x ≡ None → (y : Name) (j : ℕ) → b y ≡ Some j
    → bound b x t y ≡ Some j
bound_other b x t none y j e = by_test (bytes_eq y x) refl
  where
    by_test : (c : Bool) → bytes_eq y x ≡ c → cond c (Some t) (b y) ≡ Some j
    by_test true on = let same : b y ≡ b x = ap b ((bytes_eq-Decides y x).0 on) in absurd cc
    by_test false off = e

pub used_grows : (x : Name) (s : Terms) → Grows s (used x s)
used_grows x s = by_binding (s.bindings x) refl
  where
    by_binding : (o : Option ℕ) → s.bindings x ≡ o → Grows s (used_as x o s)
    by_binding (Some t) e = stays s
    by_binding None e = record {
      kinds = value_within s.kinds;
      bindings = bound_other s.bindings x (length s.kinds) e;
      version = refl;
    }

pub used_bound : (x : Name) (s : Terms) → (t : ℕ) × ((used x s).bindings x ≡ Some t)
used_bound x s = by_binding (s.bindings x) refl
  where
    by_binding : (o : Option ℕ) → s.bindings x ≡ o → (t : ℕ) × ((used_as x o s).bindings x ≡ Some t)
    by_binding (Some t) e = (t, e)
    by_binding None e = (length s.kinds, bound_same s.bindings x (length s.kinds))

-- a variable that has a term keeps it, and nothing is added
pub used_known : (x : Name) (s : Terms) (t : ℕ) → s.bindings x ≡ Some t → used x s ≡ s
used_known x s t e = ap (λ o. used_as x o s) e

pub followed_grows : (x : Name) (s : Terms) → Grows s (followed x s)
followed_grows x s = record {
  kinds = added_within (next s.version (term_of x s)) s.kinds;
  bindings = λ y j e. e;
  version = refl;
}

pub followed_there : (x : Name) (s : Terms)
    → (j : ℕ) × (slice_get (followed x s).kinds j ≡ Some (next s.version (term_of x s)))
followed_there x s = added_there s.version (term_of x s) s.kinds

pub visited_grows : (x : Name) (s : Terms) → Grows s (followed x (used x s))
visited_grows x s = onto (used_grows x s) (followed_grows x (used x s))

pub operand_grows : (o : Operand) (s : Terms) → Grows s (operand_used o s)
operand_grows (Null p) s = stays s
operand_grows (Var o) s = used_grows o.name s

pub expr_grows : (e : Expr) (s : Terms) → Grows s (expr_used e s)
expr_grows (Plain o) s = operand_grows o s
expr_grows (Read o) s = visited_grows o.name s

pub exprs_grow : (es : List Expr) (s : Terms) → Grows s (exprs_used es s)
exprs_grow [] s = stays s
exprs_grow (e ∷ es) s = onto (expr_grows e s) (exprs_grow es (expr_used e s))

mutual
  pub test_grows : (t : Cond) (s : Terms) → Grows s (cond_walked t s)
  test_grows (compare l e r) s = onto (expr_grows l s) (expr_grows r (expr_used l s))
  test_grows (negation t) s = test_grows t s
  test_grows (conjunction ts) s = tests_grow ts s
  test_grows (disjunction ts) s = tests_grow ts s

  pub tests_grow : (ts : Conds) (s : Terms) → Grows s (conds_walked ts s)
  tests_grow no_conds s = stays s
  tests_grow (cond_first t ts) s = onto (test_grows t s) (tests_grow ts (cond_walked t s))

mutual
  pub walked_grows : (f : Assertion) (s : Terms) → Grows s (walked f s)
  walked_grows empty s = stays s
  walked_grows (comparison l e r) s = onto (operand_grows l s) (operand_grows r (operand_used l s))
  walked_grows (points_to x y) s = onto (visited_grows x.name s) (operand_grows y (followed x.name (used x.name s)))
  walked_grows (cell x) s = visited_grows x.name s
  walked_grows (segment x y) s = onto (operand_grows x s) (operand_grows y (operand_used x s))
  walked_grows (star fs) s = all_grow fs s
  walked_grows (cases t f g) s =
      onto (test_grows t s) (onto (walked_grows f (cond_walked t s)) (walked_grows g (walked f (cond_walked t s))))

  pub all_grow : (fs : Assertions) (s : Terms) → Grows s (all_walked fs s)
  all_grow no_assertions s = stays s
  all_grow (assertion_first f fs) s = onto (walked_grows f s) (all_grow fs (walked f s))

-- alternatives are walked in order
pub each_grows : (fs : List Assertion) (s : Terms) → Grows s (each_walked fs s)
each_grows [] s = stays s
each_grows (f ∷ fs) s = onto (walked_grows f s) (each_grows fs (walked f s))

-- the first place of a successor
abbrev pub first_at : ℕ → ℕ → List Kind → ℕ
first_at i x ks = position_or_len (same_kind (next i x)) ks

own_kind : (i x : ℕ) → same_kind (next i x) (next i x) ≡ true
own_kind i x = both_tests (i == i) (x == x) (eq-eqb i i refl) (eq-eqb x x refl)

abbrev pub IsFirst : ℕ → ℕ → List Kind → Type 0
IsFirst i x ks = (slice_get ks (first_at i x ks) ≡ Some (next i x)) × (first_at i x ks < length ks)

at_first : (i x : ℕ) (k : Kind) (ks : List Kind) → same_kind (next i x) k ≡ true → IsFirst i x (k ∷ ks)
at_first i x k ks on =
    let at : first_at i x (k ∷ ks) ≡ 0 = ap (λ c. cond (not c) (1 + first_at i x ks) 0) on in
    (ap (slice_get (k ∷ ks)) at ∙ ap Some (same_next i x k on), omega arith)

past_first : (i x : ℕ) (k : Kind) (ks : List Kind) → same_kind (next i x) k ≡ false → IsFirst i x ks
    → IsFirst i x (k ∷ ks)
past_first i x k ks off r =
    let at : first_at i x (k ∷ ks) ≡ 1 + first_at i x ks = ap (λ c. cond (not c) (1 + first_at i x ks) 0) off in
    let up : 1 + first_at i x ks ≡ suc (first_at i x ks) = omega arith in
    (ap (slice_get (k ∷ ks)) (at ∙ up) ∙ r.0, omega (arith, r.1))

front_or : (i x : ℕ) (k : Kind) (ks : List Kind) → IsFirst i x ks → IsFirst i x (k ∷ ks)
front_or i x k ks r =
    elim (cases_Bool (same_kind (next i x) k)) [ inl on ↦ at_first i x k ks on | inr off ↦ past_first i x k ks off r ]

some_same : (k l : Kind) → Some k ≡ Some l → k ≡ l
some_same k l e = cc

pub first_there : (i x : ℕ) (ks : List Kind) (j : ℕ) → slice_get ks j ≡ Some (next i x) → IsFirst i x ks
first_there i x [] j e = absurd cc
first_there i x (k ∷ ks) zero e =
    at_first i x k ks (ap (same_kind (next i x)) (some_same k (next i x) e) ∙ own_kind i x)
first_there i x (k ∷ ks) (suc m) e = front_or i x k ks (first_there i x ks m e)

-- a successor that is listed stands at its place
pub place_there : (i x : ℕ) (ks : List Kind) (j : ℕ) → slice_get ks j ≡ Some (next i x)
    → slice_get ks (place (next i x) ks) ≡ Some (next i x)
place_there i x ks j e =
    let at = first_there i x ks j e in
    ap (λ b. slice_get ks (unwrap_or (cond b (Some (first_at i x ks)) None) (length ks)))
    (lt-ltb (first_at i x ks) (length ks) at.1) ∙ at.0

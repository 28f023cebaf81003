-- The terms of a callee's variables, and of those that a loop assigns.
use Rattle.std.specs.Prelude.{◌≡◌, ◌⊎◌, ℕ, ◌+◌, List, [], ◌∷◌, ◌++◌, length, map, filter, slice_get, Option, Some, Bool}
use Rattle.std.specs.Prelude.{true, false, cond, All, Contains}
use Rattle.std.specs.Str.{bytes_eq}
use Rattle.std.proofs.Common.{refl, sym, ◌∙◌, ap, subst, inl, inr, arith}
use Rattle.std.proofs.lemmas.List.{length-map}
use Rattle.std.proofs.lemmas.List.Elements.{Contains-append_cases, All-head, All-tail}
use Rattle.gh_ast.specs.declared.Operand.{Operand}
use Rattle.gh_ast.specs.declared.Operand.TheVariants.{Null, Var}
use Rattle.gh_ast.specs.declared.Expr.{Expr}
use Rattle.gh_ast.specs.declared.Expr.TheVariants.{Plain, Read}
use Rattle.gh_ast.specs.Plain.{Cond, compare, negation, conjunction, disjunction, Conds, no_conds, cond_first}
use Rattle.gh_ast.specs.Plain.{Assertion, empty, comparison, points_to, cell, segment, star, cases, Assertions}
use Rattle.gh_ast.specs.Plain.{no_assertions, assertion_first, Procedure}
use Rattle.gh_ast.specs.Programs.{Name, parameters_of, results_of}
use Rattle.gh_ast.specs.Names.{OperandIn, ExprIn, CondIn, CondsIn, AssertionIn, AssertionsIn}
use Rattle.gh_ast.proofs.Lists.{member_first, member_later, member_cases, no_member}
use Rattle.gh_assert.specs.Heaps.{Heap}
use Rattle.gh_assert.specs.Meaning.{Store}
use Rattle.gh_assert.specs.Walks.{succ}
use Rattle.gh_path.specs.Graphs.{While}
use Rattle.gh_path.specs.Terms.{Kind, next, with_value, Bindings, unbound, bound, all_bound, Terms, terms, used}
use Rattle.gh_path.specs.Terms.{followed, operand_used, expr_used, cond_walked, conds_walked, walked, all_walked}
use Rattle.gh_path.specs.Terms.{each_walked, moved_on, rebound, renewed, some_assigns, bound_inside}
use Rattle.gh_model.proofs.terms.Extension.{Within, Grows, value_within, bound_same, bound_cases, used_known}
use Rattle.gh_model.proofs.terms.Extension.{walked_grows, each_grows}
use Rattle.gh_model.proofs.terms.Denotation.{Sound}

cons_values : (a b : ℕ) (as' bs : List ℕ) → a ∷ as' ≡ b ∷ bs → (a ≡ b) × (as' ≡ bs)
cons_values a b as' bs e = (cc, cc)

cons_options : (a b : Option ℕ) (as' bs : List (Option ℕ)) → a ∷ as' ≡ b ∷ bs → (a ≡ b) × (as' ≡ bs)
cons_options a b as' bs e = (cc, cc)

-- bindings give the values of a store
abbrev pub Gives : List ℕ → Store → Bindings → Type 0
Gives V st b = (y : Name) (t : ℕ) → b y ≡ Some t → slice_get V t ≡ Some (st y)

one_more : (V : List ℕ) (st : Store) (b : Bindings) (x : Name) (u v : ℕ) → slice_get V u ≡ Some v → st x ≡ v
    → Gives V st b → Gives V st (bound b x u)
one_more V st b x u v e f S y t g = elim (bound_cases b x u y t g) [
  | inl (same, at) ↦ ap (slice_get V) (sym at) ∙ e ∙ ap Some (sym f) ∙ ap (λ n. Some (st n)) (sym same)
  | inr k ↦ S y t k
]

pub all_give : (V : List ℕ) (st : Store) (b : Bindings) (xs : List Name) (ts vs : List ℕ)
    → map (slice_get V) ts ≡ map Some vs → map st xs ≡ vs → Gives V st b → Gives V st (all_bound b xs ts)
all_give V st b [] ts vs e f S = S
all_give V st b (x ∷ xs) [] vs e f S = S
all_give V st b (x ∷ xs) (u ∷ us) [] e f S = absurd cc
all_give V st b (x ∷ xs) (u ∷ us) (v ∷ vs) e f S =
    let e' = cons_options (slice_get V u) (Some v) (map (slice_get V) us) (map Some vs) e in
    let f' = cons_values (st x) v (map st xs) vs f in
    all_give V st (bound b x u) xs us vs e'.1 f'.1 (one_more V st b x u v e'.0 f'.0 S)

abbrev pub Knows : Bindings → Name → Type 0
Knows b y = (t : ℕ) × (b y ≡ Some t)

still_known : (b : Bindings) (x : Name) (u : ℕ) (y : Name) → Knows b y → Knows (bound b x u) y
still_known b x u y k = by_test (bytes_eq y x)
  where
    by_test : (c : Bool) → (t : ℕ) × (cond c (Some u) (b y) ≡ Some t)
    by_test true = (u, refl)
    by_test false = k

pub all_known : (b : Bindings) (xs : List Name) (ts : List ℕ) → length ts ≡ length xs → (y : Name)
    → Contains xs y ⊎ Knows b y → Knows (all_bound b xs ts) y
all_known b [] ts e y c = elim c [ inl none ↦ absurd (no_member y none) | inr k ↦ k ]
all_known b (x ∷ xs) [] e y c = absurd (omega arith)
all_known b (x ∷ xs) (u ∷ us) e y c = all_known (bound b x u) xs us (omega arith) y (elim c [
  | inl there ↦ elim (member_cases x xs y there) [
    | inl same ↦ inr (u, ap (bound b x u) (sym same) ∙ bound_same b x u)
    | inr later ↦ inl later
  ]
  | inr k ↦ inr (still_known b x u y k)
])

-- all of the names have terms
abbrev pub AllBound : Terms → List Name → Type 0
AllBound s xs = (x : Name) → Contains xs x → Knows s.bindings x

still : (xs : List Name) (s t : Terms) → t.bindings ≡ s.bindings → AllBound s xs → AllBound t xs
still xs s t e A x c = let k = A x c in (k.0, ap (λ b. b x) e ∙ k.1)

used_keeps : (x : Name) (xs : List Name) (s : Terms) → Contains xs x → AllBound s xs → (used x s).bindings ≡ s.bindings
used_keeps x xs s c A = let k = A x c in ap (λ r. r.bindings) (used_known x s k.0 k.1)

operand_keeps : (o : Operand) (xs : List Name) (s : Terms) → OperandIn o xs → AllBound s xs
    → (operand_used o s).bindings ≡ s.bindings
operand_keeps (Null p) xs s c A = refl
operand_keeps (Var o) xs s c A = used_keeps o.name xs s c A

expr_keeps : (e : Expr) (xs : List Name) (s : Terms) → ExprIn e xs → AllBound s xs
    → (expr_used e s).bindings ≡ s.bindings
expr_keeps (Plain o) xs s c A = operand_keeps o xs s c A
expr_keeps (Read o) xs s c A = used_keeps o.name xs s c A

mutual
  test_keeps : (t : Cond) (xs : List Name) (s : Terms) → CondIn t xs → AllBound s xs
      → (cond_walked t s).bindings ≡ s.bindings
  test_keeps (compare l e r) xs s c A =
      let first = expr_keeps l xs s c.0 A in
      expr_keeps r xs (expr_used l s) c.1 (still xs s (expr_used l s) first A) ∙ first
  test_keeps (negation t) xs s c A = test_keeps t xs s c A
  test_keeps (conjunction ts) xs s c A = tests_keep ts xs s c A
  test_keeps (disjunction ts) xs s c A = tests_keep ts xs s c A

  tests_keep : (ts : Conds) (xs : List Name) (s : Terms) → CondsIn ts xs → AllBound s xs
      → (conds_walked ts s).bindings ≡ s.bindings
  tests_keep no_conds xs s c A = refl
  tests_keep (cond_first t ts) xs s c A =
      let first = test_keeps t xs s c.0 A in
      tests_keep ts xs (cond_walked t s) c.1 (still xs s (cond_walked t s) first A) ∙ first

mutual
  pub walk_keeps : (f : Assertion) (xs : List Name) (s : Terms) → AssertionIn f xs → AllBound s xs
      → (walked f s).bindings ≡ s.bindings
  walk_keeps empty xs s c A = refl
  walk_keeps (comparison l e r) xs s c A =
      let first = operand_keeps l xs s c.0 A in
      operand_keeps r xs (operand_used l s) c.1 (still xs s (operand_used l s) first A) ∙ first
  walk_keeps (points_to x y) xs s c A =
      let first = used_keeps x.name xs s c.0 A in
      operand_keeps y xs (followed x.name (used x.name s)) c.1 (still xs s (used x.name s) first A) ∙ first
  walk_keeps (cell x) xs s c A = used_keeps x.name xs s c A
  walk_keeps (segment x y) xs s c A =
      let first = operand_keeps x xs s c.0 A in
      operand_keeps y xs (operand_used x s) c.1 (still xs s (operand_used x s) first A) ∙ first
  walk_keeps (star fs) xs s c A = walks_keep fs xs s c A
  walk_keeps (cases t f g) xs s c A =
      let first = test_keeps t xs s c.0 A in
      let second = walk_keeps f xs (cond_walked t s) c.1 (still xs s (cond_walked t s) first A) ∙ first in
      walk_keeps g xs (walked f (cond_walked t s)) c.2 (still xs s (walked f (cond_walked t s)) second A) ∙ second

  pub walks_keep : (fs : Assertions) (xs : List Name) (s : Terms) → AssertionsIn fs xs → AllBound s xs
      → (all_walked fs s).bindings ≡ s.bindings
  walks_keep no_assertions xs s c A = refl
  walks_keep (assertion_first f fs) xs s c A =
      let first = walk_keeps f xs s c.0 A in
      walks_keep fs xs (walked f s) c.1 (still xs s (walked f s) first A) ∙ first

-- alternatives
pub each_keeps : (fs : List Assertion) (xs : List Name) (s : Terms) → All (λ f. AssertionIn f xs) fs → AllBound s xs
    → (each_walked fs s).bindings ≡ s.bindings
each_keeps [] xs s c A = refl
each_keeps (f ∷ fs) xs s c A =
    let first = walk_keeps f xs s (All-head (λ g. AssertionIn g xs) f fs c) A in
    each_keeps fs xs (walked f s) (All-tail (λ g. AssertionIn g xs) f fs c) (still xs s (walked f s) first A) ∙ first

abbrev renewed_one : Name → Terms → Terms
renewed_one x s = terms (with_value s.kinds) (bound s.bindings x (length s.kinds)) s.version

pub renewed_within : (xs : List Name) (s : Terms) → Within s.kinds (renewed xs s).kinds
renewed_within [] s i k e = e
renewed_within (x ∷ xs) s i k e = renewed_within xs (renewed_one x s) i k (value_within s.kinds i k e)

pub renewed_version : (xs : List Name) (s : Terms) → (renewed xs s).version ≡ s.version
renewed_version [] s = refl
renewed_version (x ∷ xs) s = renewed_version xs (renewed_one x s)

pub renewed_cases : (xs : List Name) (s : Terms) (y : Name) (t : ℕ) → (renewed xs s).bindings y ≡ Some t
    → Contains xs y ⊎ (s.bindings y ≡ Some t)
renewed_cases [] s y t e = inr e
renewed_cases (x ∷ xs) s y t e = elim (renewed_cases xs (renewed_one x s) y t e) [
  | inl later ↦ inl (member_later x y xs later)
  | inr here ↦ elim (bound_cases s.bindings x (length s.kinds) y t here) [
    | inl (same, at) ↦ inl (subst (Contains (x ∷ xs)) (sym same) (member_first x xs))
    | inr old ↦ inr old
  ]
]

pub renewed_known : (xs : List Name) (s : Terms) (y : Name) → Contains xs y ⊎ Knows s.bindings y
    → Knows (renewed xs s).bindings y
renewed_known [] s y c = elim c [ inl none ↦ absurd (no_member y none) | inr k ↦ k ]
renewed_known (x ∷ xs) s y c = renewed_known xs (renewed_one x s) y (elim c [
  | inl there ↦ elim (member_cases x xs y there) [
    | inl same ↦ inr (
      length s.kinds,
      ap (bound s.bindings x (length s.kinds)) (sym same) ∙ bound_same s.bindings x (length s.kinds),
    )
    | inr later ↦ inl later
  ]
  | inr k ↦ inr (still_known s.bindings x (length s.kinds) y k)
])

-- what follows terms in a version
abbrev pub HasSuccessors : List Kind → List ℕ → ℕ → Heap → Type 0
HasSuccessors K V i h =
    (t u v : ℕ) → slice_get K t ≡ Some (next i u) → slice_get V u ≡ Some v → slice_get V t ≡ Some (succ h v)

pub counted : (V ts vs : List ℕ) → map (slice_get V) ts ≡ map Some vs → length ts ≡ length vs
counted V ts vs e = sym (length-map ts (slice_get V)) ∙ ap length e ∙ length-map vs Some

-- the parameters have the arguments' terms
pub parameters_bound : (V : List ℕ) (p : Procedure) (ts vs : List ℕ) (t : Terms) (inside : Store)
    → map (slice_get V) ts ≡ map Some vs → map inside (parameters_of p) ≡ vs
    → AllBound (rebound t (bound_inside p ts)) (parameters_of p)
parameters_bound V p ts vs t inside e f x c =
    all_known unbound (parameters_of p) ts (counted V ts vs e ∙ ap length (sym f) ∙ length-map (parameters_of p) inside)
    x (inl c)

nothing_bound : (V : List ℕ) (st : Store) → Gives V st unbound
nothing_bound V st y t e = absurd cc

-- what a callee needs is walked under the arguments' terms
pub inside_before : (K : List Kind) (V : List ℕ) (h : Heap) (p : Procedure) (ts vs : List ℕ) (t : Terms)
    (inside : Store)
    → AssertionIn p.needs (parameters_of p) → map (slice_get V) ts ≡ map Some vs → map inside (parameters_of p) ≡ vs
    → slice_get V 0 ≡ Some 0 → Within (walked p.needs (rebound t (bound_inside p ts))).kinds K
    → HasSuccessors K V t.version h
    → Sound K V inside h (walked p.needs (rebound t (bound_inside p ts)))
inside_before K V h p ts vs t inside own e f null within N = record {
  null = null;
  kinds = within;
  next = λ j u v a. N j u v (a ∙ ap (λ i. Some (next i u)) g.version);
  bound =
      λ y j a. all_give V inside unbound (parameters_of p) ts vs e f (nothing_bound V inside) y j
      (ap (λ b. b y) (sym (walk_keeps p.needs (parameters_of p) s own (parameters_bound V p ts vs t inside e f))) ∙ a);
}
  where
    s : Terms
    s = rebound t (bound_inside p ts)

    g : Grows (rebound t (bound_inside p ts)) (walked p.needs (rebound t (bound_inside p ts)))
    g = walked_grows p.needs (rebound t (bound_inside p ts))

-- the terms in which a callee gives its results
abbrev pub with_results : Procedure → Terms → Terms
with_results p s = renewed (results_of p) (moved_on (walked p.needs s))

-- .. and those in which the variables that a loop assigns (some of xs) have new values
abbrev pub with_assigned : While → List Name → Terms → Terms
with_assigned l xs s = renewed (filter (some_assigns l.body) xs) (moved_on (walked l.invariant s))

pub assigned_within : (l : While) (xs : List Name) (s : Terms)
    → Within (walked l.invariant s).kinds (with_assigned l xs s).kinds
assigned_within l xs s = renewed_within (filter (some_assigns l.body) xs) (moved_on (walked l.invariant s))

pub assigned_version : (l : While) (xs : List Name) (s : Terms) → (with_assigned l xs s).version ≡ s.version + 1
assigned_version l xs s =
    renewed_version (filter (some_assigns l.body) xs) (moved_on (walked l.invariant s))
    ∙ ap (λ i. i + 1) (walked_grows l.invariant s).version

-- what a callee gives is walked in the next version
pub inside_after : (K : List Kind) (V : List ℕ) (k : Heap) (p : Procedure) (ts vs : List ℕ) (t : Terms) (inside : Store)
    → AssertionIn p.needs (parameters_of p) → All (λ f. AssertionIn f (parameters_of p ++ results_of p)) p.gives
    → map (slice_get V) ts ≡ map Some vs → map inside (parameters_of p) ≡ vs
    → slice_get V 0 ≡ Some 0 → Within (each_walked p.gives (with_results p (rebound t (bound_inside p ts)))).kinds K
    → HasSuccessors K V (t.version + 1) k
    → ((r : Name) (j : ℕ) → Contains (results_of p) r
    → (with_results p (rebound t (bound_inside p ts))).bindings r ≡ Some j → slice_get V j ≡ Some (inside r))
    → Sound K V inside k (each_walked p.gives (with_results p (rebound t (bound_inside p ts))))
inside_after K V k p ts vs t inside own own' e f null within N R =
    let s = rebound t (bound_inside p ts) in
    let g = walked_grows p.needs s in
    let g' = each_grows p.gives (with_results p s) in
    let A = parameters_bound V p ts vs t inside e f in
    let keep : (walked p.needs s).bindings ≡ s.bindings = walk_keeps p.needs (parameters_of p) s own A in
    let B : AllBound (with_results p s) (parameters_of p ++ results_of p) =
    λ x c. renewed_known (results_of p) (moved_on (walked p.needs s)) x
    (elim (Contains-append_cases (parameters_of p) (results_of p) x c) [
      | inl there ↦ inr (let a = A x there in (a.0, ap (λ b. b x) keep ∙ a.1))
      | inr there ↦ inl there
    ]) in
    let keep' : (each_walked p.gives (with_results p s)).bindings ≡ (with_results p s).bindings =
    each_keeps p.gives (parameters_of p ++ results_of p) (with_results p s) own' B in
    let version : (each_walked p.gives (with_results p s)).version ≡ t.version + 1 =
    g'.version ∙ renewed_version (results_of p) (moved_on (walked p.needs s)) ∙ ap (λ i. i + 1) g.version in
    record {
      null = null;
      kinds = within;
      next = λ j u v a. N j u v (a ∙ ap (λ i. Some (next i u)) version);
      bound = λ y j a. elim (renewed_cases (results_of p) (moved_on (walked p.needs s)) y j
          (ap (λ b. b y) (sym keep') ∙ a)) [
            | inl there ↦ R y j there (ap (λ b. b y) (sym keep') ∙ a)
            | inr old ↦ all_give V inside unbound (parameters_of p) ts vs e f (nothing_bound V inside) y j
                (ap (λ b. b y) (sym keep) ∙ old)
          ];
    }

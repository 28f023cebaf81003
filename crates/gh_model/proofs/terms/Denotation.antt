-- Where the terms of a walk have the values of variables, what is walked has names.
use Rattle.std.specs.Prelude.{◌≡◌, ℕ, zero, suc, List, [], ◌∷◌, map, slice_get, unwrap_or, Option, Some, Contains}
use Rattle.std.proofs.Common.{refl, sym, ◌∙◌, ap, arith}
use Rattle.gh_ast.specs.declared.Operand.{Operand}
use Rattle.gh_ast.specs.declared.Operand.TheVariants.{Null, Var}
use Rattle.gh_ast.specs.declared.Expr.{Expr}
use Rattle.gh_ast.specs.declared.Expr.TheVariants.{Plain, Read}
use Rattle.gh_ast.specs.Plain.{Assertion, empty, comparison, points_to, cell, segment, star, cases, Assertions}
use Rattle.gh_ast.specs.Plain.{no_assertions, assertion_first}
use Rattle.gh_ast.specs.Programs.{Name}
use Rattle.gh_assert.specs.Heaps.{Heap}
use Rattle.gh_assert.specs.Meaning.{Store, value}
use Rattle.gh_assert.specs.Values.{result, Give}
use Rattle.gh_assert.specs.Walks.{succ}
use Rattle.gh_assert.specs.Reading.{HasNames, HaveNames}
use Rattle.gh_assert.proofs.Cells.{succ_at}
use Rattle.gh_assert.proofs.Owned.{later_one}
use Rattle.gh_path.specs.Terms.{Kind, next, Terms, used, term_of, followed, operand_used, expr_used, expr_term}
use Rattle.gh_path.specs.Terms.{exprs_used, exprs_terms, cond_walked, walked, all_walked}
use Rattle.gh_model.proofs.terms.Extension.{Within, Grows, stays, onto, used_bound, followed_there, operand_grows}
use Rattle.gh_model.proofs.terms.Extension.{exprs_grow, walked_grows, all_grow, place_there}

-- the terms have the values that a store and a heap give
pub record Sound (K : List Kind) (V : List ℕ) (st : Store) (h : Heap) (s : Terms) : Type 0 where
  pub null : slice_get V 0 ≡ Some 0
  pub kinds : Within s.kinds K
  pub next : (t u v : ℕ) → slice_get K t ≡ Some (next s.version u) → slice_get V u ≡ Some v
      → slice_get V t ≡ Some (succ h v)
  pub bound : (y : Name) (t : ℕ) → s.bindings y ≡ Some t → slice_get V t ≡ Some (st y)

pub before : (K : List Kind) (V : List ℕ) (st : Store) (h : Heap) (r s : Terms) → Grows r s → Sound K V st h s
    → Sound K V st h r
before K V st h r s g S = record {
  null = S.null;
  kinds = λ i k e. S.kinds i k (g.kinds i k e);
  next = λ t u v e. S.next t u v (e ∙ ap (λ i. Some (next i u)) (sym g.version));
  bound = λ y t e. S.bound y t (g.bindings y t e);
}

some_value : (v w : ℕ) → Some v ≡ Some w → v ≡ w
some_value v w e = cc

pub listed : (V : List ℕ) (t v : ℕ) → slice_get V t ≡ Some v → Contains V v
listed [] t v e = absurd cc
listed (u ∷ us) zero v e = (0, omega arith, some_value u v e)
listed (u ∷ us) (suc t) v e = later_one u v us (listed us t v e)

-- the term of a variable that is used
pub term_at : (K : List Kind) (V : List ℕ) (st : Store) (h : Heap) (x : Name) (s t : Terms) → Grows (used x s) t
    → Sound K V st h t → slice_get V (term_of x t) ≡ Some (st x)
term_at K V st h x s t g S =
    let b = used_bound x s in
    let e : t.bindings x ≡ Some b.0 = g.bindings x b.0 b.1 in
    ap (λ o. slice_get V (unwrap_or o 0)) e ∙ S.bound x b.0 e

pub variable_named : (K : List Kind) (V : List ℕ) (st : Store) (h : Heap) (x : Name) (s : Terms)
    → Sound K V st h (used x s) → Contains V (st x)
variable_named K V st h x s S =
    listed V (term_of x (used x s)) (st x) (term_at K V st h x s (used x s) (stays (used x s)) S)

-- the term of what follows it
follower : (K : List Kind) (V : List ℕ) (st : Store) (h : Heap) (x : Name) (s t : Terms)
    → Grows (followed x (used x s)) t → Sound K V st h t
    → (j : ℕ) × (slice_get t.kinds j ≡ Some (next t.version (term_of x t)))
follower K V st h x s t g S =
    let there = followed_there x (used x s) in
    let b = used_bound x s in
    let e : t.bindings x ≡ Some b.0 = g.bindings x b.0 b.1 in
    let same : term_of x (used x s) ≡ term_of x t = ap (λ o. unwrap_or o 0) (b.1 ∙ sym e) in (
      there.0,
      g.kinds there.0 (next (used x s).version (term_of x (used x s))) there.1
          ∙ ap (λ u. Some (next (used x s).version u)) same ∙ ap (λ i. Some (next i (term_of x t))) (sym g.version),
    )

follower_at : (K : List Kind) (V : List ℕ) (st : Store) (h : Heap) (x : Name) (s t : Terms)
    → Grows (followed x (used x s)) t → Sound K V st h t → (j : ℕ)
    → slice_get t.kinds j ≡ Some (next t.version (term_of x t)) → slice_get V j ≡ Some (succ h (st x))
follower_at K V st h x s t g S j e =
    let b = used_bound x s in
    let known : t.bindings x ≡ Some b.0 = g.bindings x b.0 b.1 in
    S.next j (term_of x t) (st x) (S.kinds j (next t.version (term_of x t)) e)
    (ap (λ o. slice_get V (unwrap_or o 0)) known ∙ S.bound x b.0 known)

pub cell_named : (K : List Kind) (V : List ℕ) (st : Store) (h : Heap) (x : Name) (s : Terms)
    → Sound K V st h (followed x (used x s)) → Contains V (st x) × Contains V (succ h (st x))
cell_named K V st h x s S =
    let t = followed x (used x s) in
    let j = follower K V st h x s t (stays t) S in
    let b = used_bound x s in (
      listed V b.0 (st x) (S.bound x b.0 b.1),
      listed V j.0 (succ h (st x)) (follower_at K V st h x s t (stays t) S j.0 j.1),
    )

operand_named : (K : List Kind) (V : List ℕ) (st : Store) (h : Heap) (o : Operand) (s : Terms)
    → Sound K V st h (operand_used o s) → Contains V (value st o)
operand_named K V st h (Null p) s S = listed V 0 0 S.null
operand_named K V st h (Var o) s S = variable_named K V st h o.name s S

mutual
  pub formula_named : (K : List Kind) (V : List ℕ) (st : Store) (h : Heap) (f : Assertion) (s : Terms)
      → Sound K V st h (walked f s) → HasNames f st h V
  formula_named K V st h empty s S = tt
  formula_named K V st h (comparison l e r) s S = (
    operand_named K V st h l s
        (before K V st h (operand_used l s) (operand_used r (operand_used l s)) (operand_grows r (operand_used l s))
        S),
    operand_named K V st h r (operand_used l s) S,
  )
  formula_named K V st h (points_to x y) s S =
      let t = followed x.name (used x.name s) in
      let c = cell_named K V st h x.name s (before K V st h t (operand_used y t) (operand_grows y t) S) in
      (c.0, c.1, operand_named K V st h y t S)
  formula_named K V st h (cell x) s S = cell_named K V st h x.name s S
  formula_named K V st h (segment x y) s S = (
    operand_named K V st h x s
        (before K V st h (operand_used x s) (operand_used y (operand_used x s)) (operand_grows y (operand_used x s))
        S),
    operand_named K V st h y (operand_used x s) S,
  )
  formula_named K V st h (star fs) s S = formulas_named K V st h fs s S
  formula_named K V st h (cases t f g) s S =
      let r = cond_walked t s in (
        formula_named K V st h f r
            (before K V st h (walked f r) (walked g (walked f r)) (walked_grows g (walked f r)) S),
        formula_named K V st h g (walked f r) S,
      )

  pub formulas_named : (K : List Kind) (V : List ℕ) (st : Store) (h : Heap) (fs : Assertions) (s : Terms)
      → Sound K V st h (all_walked fs s) → HaveNames fs st h V
  formulas_named K V st h no_assertions s S = tt
  formulas_named K V st h (assertion_first f fs) s S = (
    formula_named K V st h f s
        (before K V st h (walked f s) (all_walked fs (walked f s)) (all_grow fs (walked f s)) S),
    formulas_named K V st h fs (walked f s) S,
  )

-- the term of an expression that was walked has the expression's value
pub expr_value : (K : List Kind) (V : List ℕ) (st : Store) (h : Heap) (e : Expr) (s t : Terms) (v : ℕ)
    → Grows (expr_used e s) t → Sound K V st h t → result st h e ≡ Some v → slice_get V (expr_term e t) ≡ Some v
expr_value K V st h (Plain (Null p)) s t v g S r = S.null ∙ r
expr_value K V st h (Plain (Var o)) s t v g S r = term_at K V st h o.name s t g S ∙ r
expr_value K V st h (Read o) s t v g S r =
    let j = follower K V st h o.name s t g S in
    follower_at K V st h o.name s t g S (expr_term (Read o) t)
    (place_there t.version (term_of o.name t) t.kinds j.0 j.1) ∙ ap Some (succ_at h (st o.name) v r)

-- and some value in any case
pub expr_some : (K : List Kind) (V : List ℕ) (st : Store) (h : Heap) (e : Expr) (s t : Terms) → Grows (expr_used e s) t
    → Sound K V st h t → (v : ℕ) × (slice_get V (expr_term e t) ≡ Some v)
expr_some K V st h (Plain (Null p)) s t g S = (0, S.null)
expr_some K V st h (Plain (Var o)) s t g S = (st o.name, term_at K V st h o.name s t g S)
expr_some K V st h (Read o) s t g S =
    let j = follower K V st h o.name s t g S in (
      succ h (st o.name),
      follower_at K V st h o.name s t g S (expr_term (Read o) t)
          (place_there t.version (term_of o.name t) t.kinds j.0 j.1),
    )

cons_same : (o p : Option ℕ) (os ps : List (Option ℕ)) → o ≡ p → os ≡ ps → o ∷ os ≡ p ∷ ps
cons_same o p os ps e f = ap (λ a. a ∷ os) e ∙ ap (λ as'. p ∷ as') f

head_same : (o p : Option ℕ) (os ps : List (Option ℕ)) → o ∷ os ≡ p ∷ ps → o ≡ p
head_same o p os ps e = cc

tail_same : (o p : Option ℕ) (os ps : List (Option ℕ)) → o ∷ os ≡ p ∷ ps → os ≡ ps
tail_same o p os ps e = cc

-- and so for some expressions, whose terms are read at the end
exprs_at : (K : List Kind) (V : List ℕ) (st : Store) (h : Heap) (es : List Expr) (vs : List ℕ) (s t : Terms)
    → Grows (exprs_used es s) t → Sound K V st h t → Give st h es vs
    → map (slice_get V) (exprs_terms es t) ≡ map Some vs
exprs_at K V st h [] [] s t g S r = refl
exprs_at K V st h [] (v ∷ vs) s t g S r = absurd cc
exprs_at K V st h (e ∷ es) [] s t g S r = absurd cc
exprs_at K V st h (e ∷ es) (v ∷ vs) s t g S r =
    cons_same (slice_get V (expr_term e t)) (Some v) (map (slice_get V) (exprs_terms es t)) (map Some vs)
    (expr_value K V st h e s t v (onto (exprs_grow es (expr_used e s)) g) S
    (head_same (result st h e) (Some v) (map (result st h) es) (map Some vs) r))
    (exprs_at K V st h es vs (expr_used e s) t g S
    (tail_same (result st h e) (Some v) (map (result st h) es) (map Some vs) r))

pub exprs_values : (K : List Kind) (V : List ℕ) (st : Store) (h : Heap) (es : List Expr) (vs : List ℕ) (s : Terms)
    → Sound K V st h (exprs_used es s) → Give st h es vs
    → map (slice_get V) (exprs_terms es (exprs_used es s)) ≡ map Some vs
exprs_values K V st h es vs s S r = exprs_at K V st h es vs s (exprs_used es s) (stays (exprs_used es s)) S r

-- The interpretation of a trace, and what it says of assertions in its heaps.
use Rattle.std.specs.Prelude.{◌≡◌, ℕ, zero, suc, ◌<◌, List, [], ◌∷◌, ◌++◌, length, slice_get, unwrap_or, Some, None}
use Rattle.std.specs.Prelude.{Bool, false, cond, IsTrue, Contains}
use Rattle.std.proofs.Common.{refl, sym, ◌∙◌, ap, subst, inl, inr, arith}
use Rattle.std.proofs.lemmas.Bool.{eqb-true, eq-eqb, lt-ltb}
use Rattle.std.proofs.lemmas.List.Elements.{Contains-append_cases}
use Rattle.gh_base.specs.declared.atom.Term.{Term}
use Rattle.gh_base.specs.declared.atom.Atom.{Atom}
use Rattle.gh_base.specs.declared.atom.Atom.TheVariants.{Eq, Btwn, Hop as HopAtom, Alloc, Def}
use Rattle.gh_base.specs.declared.sizes.Sizes.{Sizes}
use Rattle.gh_base.specs.Meaning.{Interpretation, IsCongruence}
use Rattle.gh_base.specs.Atoms.{term}
use Rattle.gh_ast.specs.declared.Occ.{Occ}
use Rattle.gh_ast.specs.declared.Operand.{Operand}
use Rattle.gh_ast.specs.declared.Operand.TheVariants.{Null, Var}
use Rattle.gh_ast.specs.declared.Expr.{Expr}
use Rattle.gh_ast.specs.declared.Expr.TheVariants.{Plain, Read}
use Rattle.gh_ast.specs.Plain.{Cond, compare, negation, conjunction, disjunction, Conds, no_conds, cond_first}
use Rattle.gh_ast.specs.Plain.{Assertion, empty, comparison, points_to, cell, segment, star, cases, Assertions}
use Rattle.gh_ast.specs.Plain.{no_assertions, assertion_first}
use Rattle.gh_ast.specs.Programs.{Name, names}
use Rattle.gh_ast.specs.Names.{AssertionIn}
use Rattle.gh_ast.specs.Occurrences.{in_operand, in_expr, in_cond, in_conds, in_assertion, in_assertions}
use Rattle.gh_ast.proofs.Lists.{member_cases, no_member, only_member}
use Rattle.gh_ast.proofs.Sites.{member_map, occurrence_of, formula_in}
use Rattle.gh_assert.specs.Heaps.{Heap}
use Rattle.gh_assert.specs.Meaning.{Store}
use Rattle.gh_assert.specs.Walks.{succ}
use Rattle.gh_assert.proofs.Hops.{hop_rows}
use Rattle.gh_path.specs.Terms.{Kind, next, Terms, used, term_of, followed, operand_used, expr_used, cond_walked}
use Rattle.gh_path.specs.Terms.{conds_walked, walked, all_walked}
use Rattle.gh_symb.specs.Formulas.{variables, successor}
use Rattle.gh_model.specs.Structures.{HeapStructure, IsModelOver}
use Rattle.gh_model.specs.Representations.{Represents}
use Rattle.gh_model.specs.Homomorphisms.{IsHomomorphism, HaveTerms, HasNext, AtCells, AtAllCells, IsPreserved}
use Rattle.gh_model.proofs.terms.Extension.{Grows, onto, stays, used_bound, followed_there, first_at, first_there}
use Rattle.gh_model.proofs.terms.Extension.{operand_grows, expr_grows, tests_grow, walked_grows, all_grow}
use Rattle.gh_model.proofs.terms.Denotation.{Sound, listed}
use Rattle.gh_model.proofs.terms.Callees.{Knows}
use Rattle.gh_model.proofs.reading.Assertions.{formulas_are_preserved}

-- the value of a term
abbrev pub value_at : List ℕ → ℕ → ℕ
value_at V t = unwrap_or (slice_get V t) 0

pub value_of : (V : List ℕ) (t v : ℕ) → slice_get V t ≡ Some v → value_at V t ≡ v
value_of V t v e = ap (λ o. unwrap_or o 0) e

abbrev table_of : List ℕ → (ℕ → HeapStructure) → Atom → Bool
table_of V M (Eq a b) = false
table_of V M (Btwn i x y z) = (M i).between (value_at V x.0) (value_at V y.0) (value_at V z.0)
table_of V M (HopAtom i x v) = (M i).hop (value_at V x.0) (value_at V v.0)
table_of V M (Alloc i x) = (M i).alloc (value_at V x.0)
table_of V M (Def number) = false

-- terms of one class have one value
abbrev pub reflection : List ℕ → (ℕ → HeapStructure) → Interpretation
reflection V M = record { class = value_at V; table = table_of V M }

pub reflection_congruence : (s : Sizes) (V : List ℕ) (M : ℕ → HeapStructure) → IsCongruence s (reflection V M)
reflection_congruence s V M = record {
  btwn = λ i x y z x' y' z' r r' a b c.
      ap (λ u. (M i).between u (value_at V y.0) (value_at V z.0)) a
      ∙ ap (λ u. (M i).between (value_at V x'.0) u (value_at V z.0)) b
      ∙ ap (λ u. (M i).between (value_at V x'.0) (value_at V y'.0) u) c;
  hop = λ i x y x' y' r r' a b. ap (λ u. (M i).hop u (value_at V y.0)) a ∙ ap (λ u. (M i).hop (value_at V x'.0) u) b;
  alloc = λ i x x' r r' a. ap (M i).alloc a;
}

pub there_at : (V : List ℕ) (t : ℕ) → t < length V → slice_get V t ≡ Some (value_at V t)
there_at [] t l = absurd (omega (arith, l))
there_at (u ∷ us) zero l = refl
there_at (u ∷ us) (suc t) l = there_at us t (omega (arith, l))

pub within_list : (V : List ℕ) (t v : ℕ) → slice_get V t ≡ Some v → t < length V
within_list [] t v e = absurd cc
within_list (u ∷ us) zero v e = omega arith
within_list (u ∷ us) (suc t) v e = omega (arith, within_list us t v e)

pub found_in : (V : List ℕ) (v : ℕ) → Contains V v → (t : ℕ) × (slice_get V t ≡ Some v)
found_in [] v c = absurd (no_member v c)
found_in (u ∷ us) v c = elim (member_cases u us v c) [
  | inl same ↦ (0, ap Some same)
  | inr later ↦ let r = found_in us v later in (suc r.0, r.1)
]

pub reflection_homomorphism : (V : List ℕ) (M : ℕ → HeapStructure) (i n : ℕ) → length V ≡ n → slice_get V 0 ≡ Some 0
    → IsHomomorphism (reflection V M) i n (value_at V) V (M i)
reflection_homomorphism V M i n count null = record {
  some = omega (arith, within_list V 0 0 null, count);
  null = value_of V 0 0 null;
  named = λ t l. listed V t (value_at V t) (there_at V t (omega (arith, l, count)));
  made_for = λ v c. let f = found_in V v c in
      (f.0, omega (arith, within_list V f.0 v f.1, count), value_of V f.0 v f.1);
  equal = λ x y lx ly. (λ e. eqb-true (value_at V x) (value_at V y) e, λ e. eq-eqb (value_at V x) (value_at V y) e);
  alloc = λ x lx. (λ e. e, λ e. e);
  hop = λ x v lx lv. (λ e. e, λ e. e);
  between = λ x y z lx ly lz. (λ e. e, λ e. e);
}

-- what is walked has terms
Knows_later : (s t : Terms) (n : Name) → Grows s t → Knows s.bindings n → Knows t.bindings n
Knows_later s t n g k = (k.0, g.bindings n k.0 k.1)

operand_known : (o : Operand) (s : Terms) (p : Occ) → Contains (in_operand o) p
    → Knows (operand_used o s).bindings p.name
operand_known (Null w) s p c = absurd (no_member p c)
operand_known (Var o) s p c =
    subst (λ (q : Occ). Knows (used o.name s).bindings q.name) (sym (only_member o p c)) (used_bound o.name s)

expr_known : (e : Expr) (s : Terms) (p : Occ) → Contains (in_expr e) p → Knows (expr_used e s).bindings p.name
expr_known (Plain o) s p c = operand_known o s p c
expr_known (Read o) s p c =
    subst (λ (q : Occ). Knows (used o.name s).bindings q.name) (sym (only_member o p c)) (used_bound o.name s)

mutual
  test_known : (t : Cond) (s : Terms) (p : Occ) → Contains (in_cond t) p → Knows (cond_walked t s).bindings p.name
  test_known (compare l e r) s p c = elim (Contains-append_cases (in_expr l) (in_expr r) p c) [
    | inl a ↦ Knows_later (expr_used l s) (expr_used r (expr_used l s)) p.name (expr_grows r (expr_used l s))
        (expr_known l s p a)
    | inr b ↦ expr_known r (expr_used l s) p b
  ]
  test_known (negation t) s p c = test_known t s p c
  test_known (conjunction ts) s p c = tests_known ts s p c
  test_known (disjunction ts) s p c = tests_known ts s p c

  tests_known : (ts : Conds) (s : Terms) (p : Occ) → Contains (in_conds ts) p
      → Knows (conds_walked ts s).bindings p.name
  tests_known no_conds s p c = absurd (no_member p c)
  tests_known (cond_first t ts) s p c = elim (Contains-append_cases (in_cond t) (in_conds ts) p c) [
    | inl a ↦ Knows_later (cond_walked t s) (conds_walked ts (cond_walked t s)) p.name (tests_grow ts (cond_walked t s))
        (test_known t s p a)
    | inr b ↦ tests_known ts (cond_walked t s) p b
  ]

mutual
  pub formula_known : (f : Assertion) (s : Terms) (p : Occ) → Contains (in_assertion f) p
      → Knows (walked f s).bindings p.name
  formula_known empty s p c = absurd (no_member p c)
  formula_known (comparison l e r) s p c = elim (Contains-append_cases (in_operand l) (in_operand r) p c) [
    | inl a ↦ Knows_later (operand_used l s) (operand_used r (operand_used l s)) p.name
        (operand_grows r (operand_used l s)) (operand_known l s p a)
    | inr b ↦ operand_known r (operand_used l s) p b
  ]
  formula_known (points_to x y) s p c = elim (member_cases x (in_operand y) p c) [
    | inl same ↦ subst (λ (q : Occ). Knows (walked (points_to x y) s).bindings q.name) same
        (Knows_later (followed x.name (used x.name s)) (walked (points_to x y) s) x.name
        (operand_grows y (followed x.name (used x.name s))) (used_bound x.name s))
    | inr b ↦ operand_known y (followed x.name (used x.name s)) p b
  ]
  formula_known (cell x) s p c =
      subst (λ (q : Occ). Knows (used x.name s).bindings q.name) (sym (only_member x p c)) (used_bound x.name s)
  formula_known (segment x y) s p c = elim (Contains-append_cases (in_operand x) (in_operand y) p c) [
    | inl a ↦ Knows_later (operand_used x s) (operand_used y (operand_used x s)) p.name
        (operand_grows y (operand_used x s)) (operand_known x s p a)
    | inr b ↦ operand_known y (operand_used x s) p b
  ]
  formula_known (star fs) s p c = formulas_known fs s p c
  formula_known (cases t f g) s p c =
      let r = cond_walked t s in
      elim (Contains-append_cases (in_cond t ++ in_assertion f) (in_assertion g) p c) [
        | inr b ↦ formula_known g (walked f r) p b
        | inl ab ↦ elim (Contains-append_cases (in_cond t) (in_assertion f) p ab) [
          | inl a ↦ Knows_later r (walked g (walked f r)) p.name (onto (walked_grows f r) (walked_grows g (walked f r)))
              (test_known t s p a)
          | inr b ↦ Knows_later (walked f r) (walked g (walked f r)) p.name (walked_grows g (walked f r))
              (formula_known f r p b)
        ]
      ]

  formulas_known : (fs : Assertions) (s : Terms) (p : Occ) → Contains (in_assertions fs) p
      → Knows (all_walked fs s).bindings p.name
  formulas_known no_assertions s p c = absurd (no_member p c)
  formulas_known (assertion_first f fs) s p c = elim (Contains-append_cases (in_assertion f) (in_assertions fs) p c) [
    | inl a ↦ Knows_later (walked f s) (all_walked fs (walked f s)) p.name (all_grow fs (walked f s))
        (formula_known f s p a)
    | inr b ↦ formulas_known fs (walked f s) p b
  ]

-- the place of a successor that is listed
pub successor_there : (K : List Kind) (i u j : ℕ) → slice_get K j ≡ Some (next i u)
    → slice_get K (successor K i (term u)).0 ≡ Some (next i u)
successor_there K i u j e =
    let at = first_there i u K j e in
    ap (λ b. slice_get K (unwrap_or (cond b (Some (first_at i u K)) None) 0)) (lt-ltb (first_at i u K) (length K) at.1)
    ∙ at.0

-- where a cell's content is named, the cell hops to it
pub hop_to_content : (V : List ℕ) (h : Heap) (M : HeapStructure) → Represents V h M → (x : ℕ) → Contains V x
    → Contains V (succ h x) → IsTrue (M.alloc x) → IsTrue (M.hop x (succ h x))
hop_to_content V h M T x cx cs a =
    let there = (T.alloc x cx).0 a in
    (T.hop x (succ h x) cx cs).1 ((hop_rows V h).content x there cs)

-- the next of a variable's term
next_known : (K : List Kind) (V : List ℕ) (st : Store) (h : Heap) (M : HeapStructure) (n : ℕ) (x : Name) (s t : Terms)
    → length V ≡ n → Represents V h M → Grows (followed x (used x s)) t → Sound K V st h t
    → HasNext (variables t.bindings) (successor K t.version) n (value_at V) M x
next_known K V st h M n x s t count T g S =
    let there = followed_there x (used x s) in
    let b = used_bound x s in
    let known : t.bindings x ≡ Some b.0 = g.bindings x b.0 b.1 in
    let is : unwrap_or (t.bindings x) 0 ≡ b.0 = ap (λ o. unwrap_or o 0) known in
    let own : term_of x (used x s) ≡ b.0 = ap (λ o. unwrap_or o 0) b.1 in
    let kind : slice_get K there.0 ≡ Some (next t.version b.0) =
    S.kinds there.0 (next (used x s).version (term_of x (used x s)))
    (g.kinds there.0 (next (used x s).version (term_of x (used x s))) there.1)
    ∙ ap (λ u. Some (next (used x s).version u)) own ∙ ap (λ i. Some (next i b.0)) (sym g.version) in
    let place : slice_get K (successor K t.version (term b.0)).0 ≡ Some (next t.version b.0) =
    successor_there K t.version b.0 there.0 kind in
    let here : slice_get V b.0 ≡ Some (st x) = S.bound x b.0 known in
    let after : slice_get V (successor K t.version (term b.0)).0 ≡ Some (succ h (st x)) =
    S.next (successor K t.version (term b.0)).0 b.0 (st x) place here in
    let Next : Term → Type 0 =
    λ z. ((successor K t.version z).0 < n)
    × (IsTrue (M.alloc (value_at V z.0))
    → IsTrue (M.hop (value_at V z.0) (value_at V (successor K t.version z).0))) in
    let fine : Next (term b.0) = (
      omega (arith, within_list V (successor K t.version (term b.0)).0 (succ h (st x)) after, count),
      λ a.
          let at : value_at V b.0 ≡ st x = value_of V b.0 (st x) here in
          let to : value_at V (successor K t.version (term b.0)).0 ≡ succ h (st x) =
          value_of V (successor K t.version (term b.0)).0 (succ h (st x)) after in
          let hop =
          hop_to_content V h M T (st x) (listed V b.0 (st x) here)
          (listed V (successor K t.version (term b.0)).0 (succ h (st x)) after)
          (subst (λ u. IsTrue (M.alloc u)) at a) in
          subst (λ u. IsTrue (M.hop u (value_at V (successor K t.version (term b.0)).0))) (sym at)
          (subst (λ u. IsTrue (M.hop (st x) u)) (sym to) hop),
    ) in
    subst (λ u. Next (term u)) (sym is) fine

mutual
  pub cells_known : (K : List Kind) (V : List ℕ) (st : Store) (h : Heap) (M : HeapStructure) (n : ℕ) (f : Assertion)
      (s t : Terms) → length V ≡ n → Represents V h M → Grows (walked f s) t → Sound K V st h t
      → AtCells (HasNext (variables t.bindings) (successor K t.version) n (value_at V) M) f
  cells_known K V st h M n empty s t count T g S = tt
  cells_known K V st h M n (comparison l e r) s t count T g S = tt
  cells_known K V st h M n (points_to x y) s t count T g S =
      next_known K V st h M n x.name s t count T (onto (operand_grows y (followed x.name (used x.name s))) g) S
  cells_known K V st h M n (cell x) s t count T g S = tt
  cells_known K V st h M n (segment x y) s t count T g S = tt
  cells_known K V st h M n (star fs) s t count T g S = all_cells_known K V st h M n fs s t count T g S
  cells_known K V st h M n (cases e f f') s t count T g S =
      let r = cond_walked e s in (
        cells_known K V st h M n f r t count T (onto (walked_grows f' (walked f r)) g) S,
        cells_known K V st h M n f' (walked f r) t count T g S,
      )

  all_cells_known : (K : List Kind) (V : List ℕ) (st : Store) (h : Heap) (M : HeapStructure) (n : ℕ) (fs : Assertions)
      (s t : Terms) → length V ≡ n → Represents V h M → Grows (all_walked fs s) t → Sound K V st h t
      → AtAllCells (HasNext (variables t.bindings) (successor K t.version) n (value_at V) M) fs
  all_cells_known K V st h M n no_assertions s t count T g S = tt
  all_cells_known K V st h M n (assertion_first f fs) s t count T g S = (
    cells_known K V st h M n f s t count T (onto (all_grow fs (walked f s)) g) S,
    all_cells_known K V st h M n fs (walked f s) t count T g S,
  )

-- the formulas of an assertion that was walked
pub walked_preserved : (K : List Kind) (V : List ℕ) (M : ℕ → HeapStructure) (st : Store) (h : Heap) (n : ℕ)
    (f : Assertion) (s : Terms) → length V ≡ n → IsModelOver V (M (walked f s).version)
    → Represents V h (M (walked f s).version) → Sound K V st h (walked f s)
    → IsPreserved (reflection V M) (walked f s).version n (value_at V) V (M (walked f s).version)
    (variables (walked f s).bindings) (successor K (walked f s).version) st f
walked_preserved K V M st h n f s count model T S =
    let t = walked f s in
    let xs = names (in_assertion f) in
    let names_in : AssertionIn f xs = formula_in f xs (λ o c. member_map (λ (q : Occ). q.name) (in_assertion f) o c) in
    let terms_have : HaveTerms (variables t.bindings) n (value_at V) st xs = λ x c.
    (let o = occurrence_of (in_assertion f) x c in
    let k : Knows t.bindings x = subst (λ y. Knows t.bindings y) o.2 (formula_known f s o.0 o.1) in
    let value = S.bound x k.0 k.1 in
    let is : unwrap_or (t.bindings x) 0 ≡ k.0 = ap (λ u. unwrap_or u 0) k.1 in
    subst (λ u. (u < n) × (value_at V u ≡ st x)) (sym is)
    (omega (arith, within_list V k.0 (st x) value, count), value_of V k.0 (st x) value)) in
    formulas_are_preserved (reflection V M) t.version n (value_at V) V (M t.version) (variables t.bindings)
    (successor K t.version) st xs f model (reflection_homomorphism V M t.version n count S.null) names_in terms_have
    (cells_known K V st h (M t.version) n f s t count T (stays t) S)

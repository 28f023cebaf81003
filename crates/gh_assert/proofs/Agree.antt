-- An assertion depends on the names in it alone.
use Rattle.std.specs.Prelude.{◌≡◌, map, [], ◌∷◌, ℕ, List, Bool, ◌==◌, true, false, not, ◌&&◌, ◌||◌, MatchBool, Contains}
use Rattle.std.proofs.Common.{inl, inr, refl, sym, ◌∙◌, ap, subst}
use Rattle.gh_ast.specs.Plain.{Cond, compare, negation, conjunction, disjunction, Conds, no_conds, cond_first}
use Rattle.gh_ast.specs.Plain.{Assertion, empty, comparison, points_to, cell, segment, star, cases, Assertions}
use Rattle.gh_ast.specs.Plain.{no_assertions, assertion_first}
use Rattle.gh_ast.specs.declared.Operand.{Operand}
use Rattle.gh_ast.specs.declared.Operand.TheVariants.{Null, Var}
use Rattle.gh_ast.specs.declared.Expr.{Expr}
use Rattle.gh_ast.specs.declared.Expr.TheVariants.{Plain, Read}
use Rattle.gh_assert.specs.Heaps.{Heap, IsCell, Segment}
use Rattle.gh_assert.specs.Meaning.{Store, Meaning, MeaningAll, value, plain_value, agrees, truth, all_true, some_true}
use Rattle.gh_ast.specs.Programs.{Name}
use Rattle.gh_ast.specs.Names.{OperandIn, ExprIn, CondIn, CondsIn, AssertionIn, AssertionsIn}
use Rattle.gh_assert.specs.Laws.{NamesDecide}
use Rattle.gh_ast.proofs.Lists.{member_cases, no_member}

abbrev pub Agree : List Name → Store → Store → Type 0
Agree xs s t = (y : Name) → Contains xs y → s y ≡ t y

same_value : (o : Operand) (xs : List Name) (s t : Store) → Agree xs s t → OperandIn o xs → value s o ≡ value t o
same_value (Null span) xs s t a i = refl
same_value (Var o) xs s t a i = a o.name i

same_plain : (e : Expr) (xs : List Name) (s t : Store) → Agree xs s t → ExprIn e xs → plain_value s e ≡ plain_value t e
same_plain (Plain o) xs s t a i = same_value o xs s t a i
same_plain (Read o) xs s t a i = refl

same_test : (e : Bool) (a b c d : ℕ) → a ≡ c → b ≡ d → agrees e (a == b) ≡ agrees e (c == d)
same_test e a b c d p q = rw (p, q) refl

mutual
  same_truth : (t : Cond) (xs : List Name) (s u : Store) → Agree xs s u → CondIn t xs → truth s t ≡ truth u t
  same_truth (compare l e r) xs s u a i = same_test e _ _ _ _ (same_plain l xs s u a i.0) (same_plain r xs s u a i.1)
  same_truth (negation t) xs s u a i = ap not (same_truth t xs s u a i)
  same_truth (conjunction ts) xs s u a i = same_all ts xs s u a i
  same_truth (disjunction ts) xs s u a i = same_some ts xs s u a i

  same_all : (ts : Conds) (xs : List Name) (s u : Store) → Agree xs s u → CondsIn ts xs → all_true s ts ≡ all_true u ts
  same_all no_conds xs s u a i = refl
  same_all (cond_first t ts) xs s u a i =
      ap (λ b. b && all_true s ts) (same_truth t xs s u a i.0) ∙ ap (λ b. truth u t && b) (same_all ts xs s u a i.1)

  same_some : (ts : Conds) (xs : List Name) (s u : Store) → Agree xs s u → CondsIn ts xs
      → some_true s ts ≡ some_true u ts
  same_some no_conds xs s u a i = refl
  same_some (cond_first t ts) xs s u a i =
      ap (λ b. b || some_true s ts) (same_truth t xs s u a i.0) ∙ ap (λ b. truth u t || b) (same_some ts xs s u a i.1)

either_way : (b : Bool) (F G F' G' : Type 0) → (F → F') → (G → G') → MatchBool b F G → MatchBool b F' G'
either_way true F G F' G' f g m = f m
either_way false F G F' G' f g m = g m

mutual
  pub same_meaning : (f : Assertion) (xs : List Name) (s t : Store) (h : Heap) → Agree xs s t → AssertionIn f xs
      → Meaning f s h → Meaning f t h
  same_meaning empty xs s t h a i m = m
  same_meaning (comparison l e r) xs s t h a i m =
      (m.0, sym (same_test e _ _ _ _ (same_value l xs s t a i.0) (same_value r xs s t a i.1)) ∙ m.1)
  same_meaning (points_to at to) xs s t h a i m =
      subst (λ v. IsCell (t at.name) v h) (same_value to xs s t a i.1)
      (subst (λ p. IsCell p (value s to) h) (a at.name i.0) m)
  same_meaning (cell at) xs s t h a i (to, m) = (to, subst (λ p. IsCell p to h) (a at.name i) m)
  same_meaning (segment x y) xs s t h a i (n, m) = (
    n,
    subst (λ v. Segment n (value t x) v h) (same_value y xs s t a i.1)
        (subst (λ p. Segment n p (value s y) h) (same_value x xs s t a i.0) m),
  )
  same_meaning (star fs) xs s t h a i m = same_meanings fs xs s t h a i m
  same_meaning (cases b f g) xs s t h a i m =
      subst (λ w. MatchBool w (Meaning f t h) (Meaning g t h)) (same_truth b xs s t a i.0)
      (either_way (truth s b) (Meaning f s h) (Meaning g s h) (Meaning f t h) (Meaning g t h)
      (λ n. same_meaning f xs s t h a i.1 n) (λ n. same_meaning g xs s t h a i.2 n) m)

  same_meanings : (fs : Assertions) (xs : List Name) (s t : Store) (h : Heap) → Agree xs s t → AssertionsIn fs xs
      → MeaningAll fs s h → MeaningAll fs t h
  same_meanings no_assertions xs s t h a i m = m
  same_meanings (assertion_first f fs) xs s t h a i (b, c, split, m, ms) =
      (b, c, split, same_meaning f xs s t b a i.0 m, same_meanings fs xs s t c a i.1 ms)

pub maps_agree : (xs : List Name) (s t : Store) → map s xs ≡ map t xs → Agree xs s t
maps_agree [] s t e y i = absurd (no_member y i)
maps_agree (x ∷ xs) s t e y i =
    let first : s x ≡ t x = cc in
    let others : map s xs ≡ map t xs = cc in
    elim (member_cases x xs y i)
    [ inl same ↦ ap s (sym same) ∙ first ∙ ap t same | inr later ↦ maps_agree xs s t others y later ]

pub names_decide : NamesDecide
names_decide f xs s t h within same = (
  same_meaning f xs s t h (maps_agree xs s t same) within,
  same_meaning f xs t s h (maps_agree xs t s (sym same)) within,
)

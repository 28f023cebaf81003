-- What an assertion says of a store and a heap.
use Rattle.std.specs.Prelude.{◌≡◌, ℕ, List, Contains, Bool, true, false, not, ◌&&◌, ◌||◌, ◌==◌, MatchBool}
use Rattle.gh_ast.specs.Plain.{Cond, compare, negation, conjunction, disjunction, Conds, no_conds, cond_first}
use Rattle.gh_ast.specs.Plain.{Assertion, empty, comparison, points_to, cell, segment, star, cases, Assertions}
use Rattle.gh_ast.specs.Plain.{no_assertions, assertion_first}
use Rattle.gh_ast.specs.declared.Operand.{Operand}
use Rattle.gh_ast.specs.declared.Operand.TheVariants.{Null, Var}
use Rattle.gh_ast.specs.declared.Expr.{Expr}
use Rattle.gh_ast.specs.declared.Expr.TheVariants.{Plain, Read}
use Rattle.gh_assert.specs.Heaps.{Heap, Splits, IsEmpty, IsCell, Segment}

-- a value for each name
abbrev pub Store : Type 0
Store = List ℕ → ℕ

abbrev pub value : Store → Operand → ℕ
value s (Null span) = 0
value s (Var o) = s o.name

-- the tests of assertions have no reads (one would count as null)
abbrev pub plain_value : Store → Expr → ℕ
plain_value s (Plain o) = value s o
plain_value s (Read o) = 0

-- whether a comparison is true: the first value says whether it asks for equal sides, the second whether they are equal
abbrev pub agrees : Bool → Bool → Bool
agrees true b = b
agrees false b = not b

abbrev mutual
  pub truth : Store → Cond → Bool
  truth s (compare l e r) = agrees e (plain_value s l == plain_value s r)
  truth s (negation t) = not (truth s t)
  truth s (conjunction ts) = all_true s ts
  truth s (disjunction ts) = some_true s ts

  pub all_true : Store → Conds → Bool
  all_true s no_conds = true
  all_true s (cond_first t ts) = truth s t && all_true s ts

  pub some_true : Store → Conds → Bool
  some_true s no_conds = false
  some_true s (cond_first t ts) = truth s t || some_true s ts

abbrev mutual
  pub Meaning : Assertion → Store → Heap → Type 0
  Meaning empty s h = IsEmpty h
  Meaning (comparison l e r) s h = IsEmpty h × (agrees e (value s l == value s r) ≡ true)
  Meaning (points_to at to) s h = IsCell (s at.name) (value s to) h
  Meaning (cell at) s h = (to : ℕ) × IsCell (s at.name) to h
  Meaning (segment x y) s h = (n : ℕ) × Segment n (value s x) (value s y) h
  Meaning (star fs) s h = MeaningAll fs s h
  Meaning (cases t f g) s h = MatchBool (truth s t) (Meaning f s h) (Meaning g s h)

  pub MeaningAll : Assertions → Store → Heap → Type 0
  MeaningAll no_assertions s h = IsEmpty h
  MeaningAll (assertion_first f fs) s h = (a b : Heap) × Splits h a b × Meaning f s a × MeaningAll fs s b

-- some sub-heap meets the assertion
abbrev pub HasPart : Assertion → Store → Heap → Type 0
HasPart f s h = (a : Heap) × (b : Heap) × Splits h a b × Meaning f s a

-- the heap meets one of some alternatives
abbrev pub MeetsOneOf : List Assertion → Store → Heap → Type 0
MeetsOneOf fs s h = (f : Assertion) × Contains fs f × Meaning f s h

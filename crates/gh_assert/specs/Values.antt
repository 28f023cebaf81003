-- What expressions and tests give, and stores in which names get values.
use Rattle.std.specs.Prelude.{◌≡◌, ℕ, List, map, Bool, true, false, not, ◌==◌, Option, Some, None, Any, Contains}
use Rattle.std.specs.FinMap.{get}
use Rattle.gh_ast.specs.Plain.{Cond, compare, negation, conjunction, disjunction, Conds, no_conds, cond_first}
use Rattle.gh_ast.specs.declared.Expr.{Expr}
use Rattle.gh_ast.specs.declared.Expr.TheVariants.{Plain, Read}
use Rattle.gh_ast.specs.Programs.{Name}
use Rattle.gh_assert.specs.Heaps.{Heap}
use Rattle.gh_assert.specs.Meaning.{Store, value, agrees}

-- the value of an expression; a read has none where its place isn't allocated
abbrev pub result : Store → Heap → Expr → Option ℕ
result s h (Plain o) = Some (value s o)
result s h (Read o) = get h (s o.name)

-- each of the expressions has its value
abbrev pub Give : Store → Heap → List Expr → List ℕ → Type 0
Give s h es vs = map (result s h) es ≡ map Some vs

-- one of them has none
abbrev pub HasUnread : Store → Heap → List Expr → Type 0
HasUnread s h es = Any (λ e. result s h e ≡ None) es

abbrev pub compared : Bool → Option ℕ → Option ℕ → Option Bool
compared e (Some a) (Some b) = Some (agrees e (a == b))
compared e (Some a) None = None
compared e None o = None

abbrev pub not_outcome : Option Bool → Option Bool
not_outcome None = None
not_outcome (Some b) = Some (not b)

abbrev pub and_then : Option Bool → Option Bool → Option Bool
and_then None o = None
and_then (Some false) o = Some false
and_then (Some true) o = o

abbrev pub or_then : Option Bool → Option Bool → Option Bool
or_then None o = None
or_then (Some true) o = Some true
or_then (Some false) o = o

-- what a test gives, read from left to right with early stop: true, false, or nothing where a read fails
abbrev mutual
  pub outcome : Store → Heap → Cond → Option Bool
  outcome s h (compare l e r) = compared e (result s h l) (result s h r)
  outcome s h (negation t) = not_outcome (outcome s h t)
  outcome s h (conjunction ts) = all_outcome s h ts
  outcome s h (disjunction ts) = some_outcome s h ts

  pub all_outcome : Store → Heap → Conds → Option Bool
  all_outcome s h no_conds = Some true
  all_outcome s h (cond_first t ts) = and_then (outcome s h t) (all_outcome s h ts)

  pub some_outcome : Store → Heap → Conds → Option Bool
  some_outcome s h no_conds = Some false
  some_outcome s h (cond_first t ts) = or_then (outcome s h t) (some_outcome s h ts)

-- the names get the values, all at once, and every other name keeps its own
pub record Gets (s : Store) (xs : List Name) (vs : List ℕ) (t : Store) : Type 0 where
  pub given : map t xs ≡ vs
  pub kept : (y : Name) → (Contains xs y → ⊥) → t y ≡ s y

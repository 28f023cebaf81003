-- What is said twice of tests is one.
use Rattle.std.specs.Prelude.{◌≡◌, Bool, true, false, ◌&&◌, ◌||◌, Some}
use Rattle.std.proofs.Common.{refl, ◌∙◌, ap}
use Rattle.gh_ast.specs.declared.Expr.TheVariants.{Plain, Read}
use Rattle.gh_ast.specs.Plain.{Cond, compare, negation, conjunction, disjunction, Conds, no_conds, cond_first}
use Rattle.gh_ast.specs.WellFormed.{IsFormedCond, AreFormedConds}
use Rattle.gh_assert.specs.Heaps.{Heap}
use Rattle.gh_assert.specs.Meaning.{Store, truth, all_true, some_true}
use Rattle.gh_assert.specs.Values.{not_outcome, and_then, or_then, outcome, all_outcome, some_outcome}
use Rattle.gh_trace.specs.Laws.{TestsGiveTheirTruth}

both_then : (a b : Bool) → and_then (Some a) (Some b) ≡ Some (a && b)
both_then true b = refl
both_then false b = refl

either_then : (a b : Bool) → or_then (Some a) (Some b) ≡ Some (a || b)
either_then true b = refl
either_then false b = refl

not_true : false ≡ true → ⊥
not_true e = absurd cc

mutual
  gives : (s : Store) (h : Heap) (t : Cond) → IsFormedCond false t → outcome s h t ≡ Some (truth s t)
  gives s h (compare (Plain l) e (Plain r)) f = refl
  gives s h (compare (Plain l) e (Read r)) f = absurd (not_true f.1)
  gives s h (compare (Read l) e r) f = absurd (not_true f.0)
  gives s h (negation t) f = ap not_outcome (gives s h t f)
  gives s h (conjunction ts) f = gives_all s h ts f.1
  gives s h (disjunction ts) f = gives_some s h ts f.1

  gives_all : (s : Store) (h : Heap) (ts : Conds) → AreFormedConds false ts → all_outcome s h ts ≡ Some (all_true s ts)
  gives_all s h no_conds f = refl
  gives_all s h (cond_first t ts) f =
      ap (λ o. and_then o (all_outcome s h ts)) (gives s h t f.0)
      ∙ ap (and_then (Some (truth s t))) (gives_all s h ts f.1)
      ∙ both_then (truth s t) (all_true s ts)

  gives_some : (s : Store) (h : Heap) (ts : Conds) → AreFormedConds false ts
      → some_outcome s h ts ≡ Some (some_true s ts)
  gives_some s h no_conds f = refl
  gives_some s h (cond_first t ts) f =
      ap (λ o. or_then o (some_outcome s h ts)) (gives s h t f.0)
      ∙ ap (or_then (Some (truth s t))) (gives_some s h ts f.1)
      ∙ either_then (truth s t) (some_true s ts)

pub tests_give_their_truth : TestsGiveTheirTruth
tests_give_their_truth = gives

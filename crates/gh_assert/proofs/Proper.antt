-- What meets an assertion has no cell at null.
use Rattle.std.specs.Prelude.{◌≡◌, ◌≢◌, ℕ, zero, suc, Option, None, Bool, true, false, MatchBool}
use Rattle.std.specs.FinMap.{get, insert, remove}
use Rattle.std.proofs.Common.{refl, sym, ◌∙◌, ap}
use Rattle.gh_ast.specs.Plain.{Assertion, empty, comparison, points_to, cell, segment, star, cases, Assertions}
use Rattle.gh_ast.specs.Plain.{no_assertions, assertion_first}
use Rattle.gh_assert.specs.Heaps.{Heap, IsCell, Segment, IsProper, or_else}
use Rattle.gh_assert.specs.Meaning.{Store, Meaning, MeaningAll, value, truth}
use Rattle.gh_assert.specs.Walks.{Allocated}
use Rattle.gh_assert.specs.Laws.{MetAreProper}
use Rattle.gh_assert.proofs.Unique.{get_kept}
use Rattle.gh_assert.proofs.Cells.{get_beside}

cell_proper : (x v : ℕ) (h : Heap) → IsCell x v h → IsProper h
cell_proper x v h is = is.elsewhere 0 (λ e. is.not_null (sym e))

segment_proper : (n x y : ℕ) (h : Heap) → Segment n x y h → IsProper h
segment_proper zero x y h m = m.1 0
segment_proper (suc n) x y h (_, some, z, at, rest) =
    sym (get_kept h x 0 (λ e. some (sym e))) ∙ segment_proper n z y (remove h x) rest

pub none_both : (o p q : Option ℕ) → o ≡ or_else p q → p ≡ None → q ≡ None → o ≡ None
none_both o p q e f g = let both : or_else p q ≡ None = rw (f, g) refl in e ∙ both

choice_proper : (b : Bool) (F G C : Type 0) → (F → C) → (G → C) → MatchBool b F G → C
choice_proper true F G C f g m = f m
choice_proper false F G C f g m = g m

mutual
  pub met_proper : (f : Assertion) (s : Store) (h : Heap) → Meaning f s h → IsProper h
  met_proper empty s h m = m 0
  met_proper (comparison l e r) s h m = m.0 0
  met_proper (points_to at to) s h m = cell_proper (s at.name) (value s to) h m
  met_proper (cell at) s h (v, m) = cell_proper (s at.name) v h m
  met_proper (segment x y) s h (n, m) = segment_proper n (value s x) (value s y) h m
  met_proper (star fs) s h m = all_proper fs s h m
  met_proper (cases t f g) s h m =
      choice_proper (truth s t) (Meaning f s h) (Meaning g s h) (IsProper h) (λ n. met_proper f s h n)
      (λ n. met_proper g s h n) m

  all_proper : (fs : Assertions) (s : Store) (h : Heap) → MeaningAll fs s h → IsProper h
  all_proper no_assertions s h m = m 0
  all_proper (assertion_first f fs) s h (a, b, split, m, ms) =
      none_both (get h 0) (get a 0) (get b 0) (split.union 0) (met_proper f s a m) (all_proper fs s b ms)

pub met_are_proper : MetAreProper
met_are_proper = met_proper

pub put_proper : (h : Heap) (x v : ℕ) → x ≢ 0 → IsProper h → IsProper (insert h x v)
put_proper h x v some p = get_beside h x v 0 (λ e. some (sym e)) ∙ p

pub at_proper : (h : Heap) (x : ℕ) → Allocated h x → IsProper h → x ≢ 0
at_proper h x (v, e) p same = let none : get h x ≡ None = ap (get h) same ∙ p in absurd cc

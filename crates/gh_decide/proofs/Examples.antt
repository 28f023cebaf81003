-- What the three small programs are.
use Rattle.std.specs.Prelude.{◌≡◌, ℕ, List, [], ◌∷◌, Option, Some, None, Contains}
use Rattle.std.specs.FinMap.{get, insert, remove}
use Rattle.std.proofs.Common.{refl, sym, ◌∙◌, ap, subst, inl, inr, arith}
use Rattle.gh_ast.specs.Plain.{Assertion, empty, cell, free, Statements, no_statements, statement_first, Procedure}
use Rattle.gh_assert.specs.Heaps.{Heap, Splits, IsCell, or_else}
use Rattle.gh_assert.specs.Meaning.{Store, Meaning, MeetsOneOf}
use Rattle.gh_assert.proofs.Alternatives.{first_met}
use Rattle.gh_assert.proofs.Unique.{get_removed}
use Rattle.gh_assert.proofs.Cells.{no_cells, get_nothing, get_put, get_beside}
use Rattle.gh_assert.proofs.Unions.{one_cell, is_one_cell}
use Rattle.gh_ast.specs.Programs.{body_statements}
use Rattle.gh_machine.specs.Machine.{Config, starting, continuing, IsRun, IsGoodRun, IsGood}
use Rattle.gh_path.specs.Graphs.{Start, starts, at_entry, meets_at, graph_from}
use Rattle.gh_trace.specs.Traces.{State}
use Rattle.gh_decide.specs.Rules.{AllKeepRules, KeepsRules}
use Rattle.gh_decide.specs.Examples.{x, with_cell, alone, cuts, leaks, frees_twice}
use Rattle.gh_decide.specs.Safe.{Safe, AllPass}
use Rattle.gh_decide.specs.Laws.{ExamplesHold}
use Rattle.gh_ast.proofs.Lists.{member_first, member_later, no_member, only_member}
use Rattle.gh_decide.proofs.Safe.{to_paths}
use Rattle.gh_decide.proofs.Compose.{composition}

-- one cell, at 1, where all variables are
abbrev cell_heap : Heap
cell_heap = one_cell 1 0

abbrev ones : Store
ones = λ y. 1

whole_cell : Splits cell_heap cell_heap no_cells
whole_cell = record {
  disjoint = λ q. inr (get_nothing q);
  union = λ q. whole (get cell_heap q) (get no_cells q) (get_nothing q);
}
  where
    whole : (o p : Option ℕ) → p ≡ None → o ≡ or_else o p
    whole None p e = sym e
    whole (Some v) p e = refl

one_there : IsCell 1 0 cell_heap
one_there = is_one_cell 1 0 (λ e. omega (arith, e))

good_run : (gives : Assertion) (body : Statements) → IsGood (alone (with_cell gives body)) → (ds : List Config)
    → IsRun (alone (with_cell gives body)) (starting (with_cell gives body) ones cell_heap []) ds →
    IsGoodRun (with_cell gives body) no_cells (starting (with_cell gives body) ones cell_heap []) ds
good_run gives body good ds run =
    good (with_cell gives body) (member_first (with_cell gives body) []) ones cell_heap cell_heap no_cells whole_cell
    (0, one_there) ds run

-- one alternative, of the empty heap
nothing_met : (s : Store) (h : Heap) → MeetsOneOf (empty ∷ []) s h → (q : ℕ) → get h q ≡ None
nothing_met s h (f, there, met) = subst (λ g. Meaning g s h) (only_member empty f there) met

leaks_not_good : IsGood (alone leaks) → ⊥
leaks_not_good good =
    let ends = (good_run empty no_statements good [] tt).ends_well (refl, refl) in
    let none : get cell_heap 1 ≡ None =
    ends.1.union 1 ∙ ap (λ o. or_else o (get no_cells 1)) (nothing_met ones ends.0 ends.2 1) ∙ get_nothing 1 in
    let here : get cell_heap 1 ≡ Some 0 = one_there.here in
    absurd cc

after_free : Config
after_free =
    continuing (starting frees_twice ones cell_heap []) ones (remove cell_heap 1)
    (statement_first (free x) no_statements)

freed_twice : IsGood (alone frees_twice) → ⊥
unfolding after_free
freed_twice good =
    (good_run empty (body_statements frees_twice) good (after_free ∷ []) (((0, one_there.here), refl), tt)).never_faults
    after_free
    (member_later (starting frees_twice ones cell_heap []) after_free (after_free ∷ []) (member_first after_free []))
    (get_removed cell_heap 1)

cut_cell : (h : Heap) (l to v : ℕ) → IsCell l to h → IsCell l v (insert h l v)
cut_cell h l to v is = record {
  not_null = is.not_null;
  here = get_put h l v;
  elsewhere = λ q away. get_beside h l v q away ∙ is.elsewhere q away;
}

cuts_safe : (s : State) → Meaning cuts.needs s.store s.heap
    → Safe (alone cuts) cuts (graph_from (alone cuts) cuts at_entry) s
cuts_safe s (to, is) = (
  (to, is.here),
  λ y t z u.
      let same : y ≡ s = t.1 in
      let met : IsCell (y.store x.name) to y.heap = subst (λ w. IsCell (w.store x.name) to w.heap) (sym same) is in
      subst (λ w. MeetsOneOf (cell x ∷ []) w.store w.heap) (sym u.3)
      (first_met (cell x) [] y.store (insert y.heap (y.store x.name) u.0)
      (u.0, cut_cell y.heap (y.store x.name) to u.0 met)),
)

cuts_typed : AllKeepRules (alone cuts)
cuts_typed p there = subst KeepsRules (sym (only_member cuts p there)) (record {
  parameters_stay = λ y i a. elim a [ inl n ↦ n | inr n ↦ n ];
  distinct = λ y i r. no_member y r;
  needs_in = member_first x.name [];
  loops_return_not = (tt, tt);
})

cuts_pass : AllPass (alone cuts)
cuts_pass p there a among s met =
    to_paths (alone cuts) p (graph_from (alone cuts) p a) s (by_procedure p (only_member cuts p there) a among s met)
  where
    by_start : (a : Start) → Contains (starts cuts) a → (s : State) → Meaning (meets_at cuts a) s.store s.heap
        → Safe (alone cuts) cuts (graph_from (alone cuts) cuts a) s
    by_start a among s met =
        let same : a ≡ at_entry = only_member at_entry a among in
        subst (λ b. Meaning (meets_at cuts b) s.store s.heap
        → Safe (alone cuts) cuts (graph_from (alone cuts) cuts b) s) (sym same) (cuts_safe s) met

    by_procedure : (p : Procedure) → p ≡ cuts → (a : Start) → Contains (starts p) a → (s : State)
        → Meaning (meets_at p a) s.store s.heap → Safe (alone cuts) p (graph_from (alone cuts) p a) s
    by_procedure p same =
        subst (λ q. (a : Start) → Contains (starts q) a → (s : State) → Meaning (meets_at q a) s.store s.heap
        → Safe (alone cuts) q (graph_from (alone cuts) q a) s) (sym same) by_start

pub examples_hold : ExamplesHold
examples_hold = record {
  cuts_is_good = composition (alone cuts) cuts_typed cuts_pass;
  leaks_is_not = leaks_not_good;
  frees_twice_is_not = freed_twice;
}

-- Cells of a heap, counted.
use Rattle.std.proofs.Common.{◌≡◌, inl, inr, ℕ, zero, suc, ◌+◌, ◌≤◌, Bool, cond, Option, Some, None, sym, ap, ◌∙◌}
use Rattle.std.proofs.Common.{arith}
use Rattle.std.specs.Prelude.{is_some}
use Rattle.std.specs.Cmp.{nat_cmp_total}
use Rattle.std.specs.FinMap.{insert, len, get, get-empty, get-insert, len-empty, len-insert}
use Rattle.std.specs.Ordering.{nat_cmp}
use Rattle.std.proofs.lemmas.Bool.{cases_Bool, cond-true, cond-false}
use Rattle.gh_small.specs.Leaders.{counted}
use Rattle.gh_assert.specs.Heaps.{Heap}
use Rattle.gh_assert.proofs.Unique.{apart}
use Rattle.gh_model.specs.BuiltTraces.{cells_below}
use Rattle.gh_small.specs.Cells.{CellsAreCounted}
use Rattle.gh_small.proofs.CounterLemmas.{one_more, none_more}

-- no cell from n on
free : (stands : ℕ → Bool) (to : ℕ → ℕ) (n q : ℕ) → n ≤ q → get (cells_below stands to n) q ≡ None
free stands to zero q h = get-empty nat_cmp q
free stands to (suc n) q h = elim (cases_Bool (stands n)) as (λ _. get (cells_below stands to (suc n)) q ≡ None) [
  | inl on ↦
      ap (λ (g : Heap). get g q)
      (cond-true (stands n) (insert (cells_below stands to n) n (to n)) (cells_below stands to n) on)
      ∙ get-insert nat_cmp_total (cells_below stands to n) n (to n) q
      ∙ ap (λ t. cond t (Some (to n)) (get (cells_below stands to n) q)) (apart q n (λ e. absurd (omega arith)))
      ∙ free stands to n q (omega arith)
  | inr off ↦ ap (λ (g : Heap). get g q)
      (cond-false (stands n) (insert (cells_below stands to n) n (to n)) (cells_below stands to n) off)
      ∙ free stands to n q (omega arith)
]

pub counted_cells : CellsAreCounted
counted_cells stands to zero = len-empty nat_cmp ℕ
counted_cells stands to (suc n) =
    elim (cases_Bool (stands n)) as (λ _. len (cells_below stands to (suc n)) ≡ counted stands (suc n)) [
      | inl on ↦
          let put =
          ap (λ (g : Heap). len g) (cond-true (stands n) (insert (cells_below stands to n) n (to n))
          (cells_below stands to n) on) in
          let more = len-insert nat_cmp_total (cells_below stands to n) n (to n) in
          let new = ap (λ (o : Option ℕ). cond (is_some o) (len (cells_below stands to n))
          (len (cells_below stands to n) + 1)) (free stands to n n (omega arith)) in
          put ∙ more ∙ new ∙ omega (arith, counted_cells stands to n, one_more stands n on)
      | inr off ↦ ap (λ (g : Heap). len g)
          (cond-false (stands n) (insert (cells_below stands to n) n (to n)) (cells_below stands to n) off)
          ∙ counted_cells stands to n ∙ sym (none_more stands n off)
    ]

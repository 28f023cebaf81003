-- What a write, a new and a freed cell do to ownership.
use Rattle.std.specs.Prelude.{◌≡◌, ◌≢◌, ℕ, List, Some, None, Contains}
use Rattle.std.specs.FinMap.{get, insert, remove}
use Rattle.std.proofs.Common.{sym, ◌∙◌, ap, inl, inr}
use Rattle.std.proofs.lemmas.Bool.{cases_eq}
use Rattle.gh_assert.specs.Heaps.{IsProper, Heap, Splits, IsCell, or_else}
use Rattle.gh_assert.specs.Ownership.{Owned}
use Rattle.gh_assert.proofs.Cells.{get_put, get_beside, get_nothing, no_cells}
use Rattle.gh_assert.proofs.Frames.{put_beside}
use Rattle.gh_assert.proofs.Kept.{cells_come_and_go}
use Rattle.gh_assert.proofs.Unions.{one_cell, is_one_cell}
use Rattle.gh_assert.proofs.Unique.{get_removed, get_kept}

pub not_null : (h : Heap) (a w : ℕ) → IsProper h → get h a ≡ Some w → a ≢ 0
not_null h a w proper e z = let none : get h a ≡ None = ap (get h) z ∙ proper in absurd cc

-- one cell, and the rest
pub cell_off : (h : Heap) (a w : ℕ) → get h a ≡ Some w → Splits h (one_cell a w) (remove h a)
cell_off h a w e = record {
  disjoint = λ q. elim (cases_eq q a) [
    | inl same ↦ inr (ap (get (remove h a)) same ∙ get_removed h a)
    | inr away ↦ inl (get_beside no_cells a w q away ∙ get_nothing q)
  ];
  union = λ q. elim (cases_eq q a) [
    | inl same ↦ ap (get h) same ∙ e
        ∙ sym (ap (λ o. or_else o (get (remove h a) q)) (ap (get (one_cell a w)) same ∙ get_put no_cells a w))
    | inr away ↦ sym (ap (λ o. or_else o (get (remove h a) q)) (get_beside no_cells a w q away ∙ get_nothing q)
        ∙ get_kept h a q away)
  ];
}

pub owned_freed : (V : List ℕ) (h : Heap) (a w : ℕ) → a ≢ 0 → get h a ≡ Some w → Contains V a → Contains V w → Owned V h
    → Owned V (remove h a)
owned_freed V h a w n e ca cw own =
    (cells_come_and_go V h (one_cell a w) (remove h a) a w (cell_off h a w e) (is_one_cell a w n) ca cw).0 own

cell_on : (h : Heap) (a v : ℕ) → get h a ≡ None → Splits (insert h a v) (one_cell a v) h
cell_on h a v e =
    put_beside h no_cells h a v
    (record { disjoint = λ q. inl (get_nothing q); union = λ q. sym (ap (λ o. or_else o (get h q)) (get_nothing q)) }) e

pub owned_made : (V : List ℕ) (h : Heap) (a v : ℕ) → a ≢ 0 → get h a ≡ None → Contains V a → Contains V v → Owned V h
    → Owned V (insert h a v)
owned_made V h a v n e ca cv own =
    (cells_come_and_go V (insert h a v) (one_cell a v) h a v (cell_on h a v e) (is_one_cell a v n) ca cv).1 own

put_cell : (a v w : ℕ) → a ≢ 0 → IsCell a v (insert (one_cell a w) a v)
put_cell a v w n = record {
  not_null = n;
  here = get_put (one_cell a w) a v;
  elsewhere = λ q away. get_beside (one_cell a w) a v q away ∙ get_beside no_cells a w q away ∙ get_nothing q;
}

pub owned_written : (V : List ℕ) (h : Heap) (a w v : ℕ) → a ≢ 0 → get h a ≡ Some w → Contains V a → Contains V w
    → Contains V v → Owned V h → Owned V (insert h a v)
owned_written V h a w v n e ca cw cv own =
    let split = put_beside h (one_cell a w) (remove h a) a v (cell_off h a w e) (get_removed h a) in
    (cells_come_and_go V (insert h a v) (insert (one_cell a w) a v) (remove h a) a v split (put_cell a v w n) ca cv).1
    (owned_freed V h a w n e ca cw own)

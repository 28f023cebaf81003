-- The least free place by the places of ascending cells.
use Rattle.std.specs.Prelude.{◌≡◌, ◌≢◌, ℕ, zero, suc, ◌+◌, ◌-◌, ◌<◌, ◌≤◌, List, length, get_or}
use Rattle.std.specs.FinMap.{entries, find, get-entries, len, len-entries}
use Rattle.std.specs.Ordering.{nat_cmp}
use Rattle.std.proofs.lemmas.List.{length-map, get_or_default}
use Rattle.std.proofs.Common.{sym, ◌∙◌, ap, subst, arith}
use Rattle.gh_assert.specs.declared.heap.Cell.{Cell}
use Rattle.gh_assert.specs.Cells.{pair_of, pairs, AreCells}
use Rattle.gh_assert.specs.Heaps.{Heap}
use Rattle.gh_assert.specs.Walks.{Allocated}
use Rattle.gh_assert.proofs.CellLists.{find_here, find_none, rises}
use Rattle.gh_run.specs.Rule.{IsLeastFree}

-- places grow by one at least from cell to cell
grows : (cs : List Cell) → AreCells cs → (d : Cell) (i n : ℕ) → i + n < length cs
    → (get_or cs i d).at + n ≤ (get_or cs (i + n) d).at
grows cs are d i zero within = let e : i + 0 ≡ i = omega arith in rw e (omega arith)
grows cs are d i (suc n) within =
    let so_far = grows cs are d i n (omega (arith, within)) in
    let next : (get_or cs (i + n) d).at < (get_or cs (i + suc n) d).at =
    rises cs are.ascending (i + n) (i + suc n) d (omega arith) within in
    omega (arith, so_far, next)

-- the cell of number k stands at k + 1 at least
pub at_least : (cs : List Cell) → AreCells cs → (d : Cell) (k : ℕ) → k < length cs → k + 1 ≤ (get_or cs k d).at
at_least cs are d k within =
    let first : (get_or cs 0 d).at ≢ 0 = are.not_null 0 d (omega (arith, within)) in
    let e : 0 + k ≡ k = omega arith in
    let later : (get_or cs 0 d).at + k ≤ (get_or cs (0 + k) d).at = grows cs are d 0 k (omega (arith, within)) in
    let moved : (get_or cs 0 d).at + k ≤ (get_or cs k d).at =
    subst (λ j. (get_or cs 0 d).at + k ≤ (get_or cs j d).at) e later in
    omega (arith, first, moved)

-- before low there is no gap, and from high on there is one before each cell
pub record GapWithin (cs : List Cell) (low high : ℕ) : Type 0 where
  pub order : low ≤ high
  pub within : high ≤ length cs
  pub before : (k : ℕ) (d : Cell) → k < low → (get_or cs k d).at ≡ k + 1
  pub after : (k : ℕ) (d : Cell) → high ≤ k → k < length cs → k + 1 < (get_or cs k d).at

pub gap_first : (cs : List Cell) (n : ℕ) → n ≡ length cs → GapWithin cs 0 n
gap_first cs n e = record {
  order = omega arith;
  within = omega (arith, e);
  before = λ k d h. absurd (omega (arith, h));
  after = λ k d h l. absurd (omega (arith, e, h, l));
}

between : (cs : List Cell) → AreCells cs → (d : Cell) (k m : ℕ) → k ≤ m → m < length cs
    → (get_or cs k d).at + (m - k) ≤ (get_or cs m d).at
between cs are d k m order within =
    let e : k + (m - k) ≡ m = omega (arith, order) in
    subst (λ j. (get_or cs k d).at + (m - k) ≤ (get_or cs j d).at) e
    (grows cs are d k (m - k) (omega (arith, e, within)))

-- the cell at m stands at m + 1, so no gap is before it
pub gap_above : (cs : List Cell) → AreCells cs → (low high m : ℕ) (c : Cell) → GapWithin cs low high → low ≤ m
    → m < high → (get_or cs m c).at ≡ m + 1 → GapWithin cs (m + 1) high
gap_above cs are low high m c g l h full = record {
  order = omega (arith, h);
  within = g.within;
  before = λ k d less.
      let inside : m < length cs = omega (arith, h, g.within) in
      let here : (get_or cs m d).at ≡ m + 1 = ap (λ (x : Cell). x.at) (get_or_default cs m d c inside) ∙ full in
      let up = between cs are d k m (omega (arith, less)) inside in
      let down = at_least cs are d k (omega (arith, less, inside)) in
      omega (arith, here, up, down, less);
  after = g.after;
}

-- the cell at m stands above m + 1, so a gap is before it
pub gap_below : (cs : List Cell) → AreCells cs → (low high m : ℕ) (c : Cell) → GapWithin cs low high → low ≤ m
    → m < high → (get_or cs m c).at ≢ m + 1 → GapWithin cs low m
gap_below cs are low high m c g l h other = record {
  order = l;
  within = omega (arith, h, g.within);
  before = g.before;
  after = λ k d more within.
      let inside : m < length cs = omega (arith, h, g.within) in
      let here : (get_or cs m d).at ≡ (get_or cs m c).at = ap (λ (x : Cell). x.at) (get_or_default cs m d c inside) in
      let low_at = at_least cs are d m inside in
      let up = between cs are d m k more within in
      omega (arith, here, low_at, up, more, other);
}

-- where both meet, the gap is found
pub gap_found : (h : Heap) (cs : List Cell) (low high : ℕ) → pairs cs ≡ entries h → AreCells cs → GapWithin cs low high
    → high ≤ low → IsLeastFree h (low + 1)
gap_found h cs low high same are g met = record {
  not_null = λ e. absurd (omega (arith, e));
  free =
      get-entries h (low + 1) ∙ ap (find nat_cmp (low + 1)) (sym same) ∙
      find_none cs low (low + 1) (λ k d less. let full = g.before k d less in omega (arith, full, less))
      (λ d inside. g.after low d met inside) are.ascending;
  least = λ k some less. allocated k some less;
}
  where
    allocated : (k : ℕ) → k ≢ 0 → k < low + 1 → Allocated h k
    allocated k some less =
        let d : Cell = record { at = 0; to = 0 } in
        let inside : k - 1 < length cs = omega (arith, some, less, g.order, g.within) in
        let here : (get_or cs (k - 1) d).at ≡ k =
        g.before (k - 1) d (omega (arith, some, less)) ∙ omega (arith, some) in (
          (get_or cs (k - 1) d).to,
          get-entries h k ∙ ap (find nat_cmp k) (sym same) ∙
              find_here cs (k - 1) k d (λ j e before. let full = g.before j e (omega (arith, before, some, less)) in
              omega (arith, full, before)) inside here,
        )

pub count_cells : (h : Heap) (cs : List Cell) → pairs cs ≡ entries h → length cs ≡ len h
count_cells h cs same = sym (length-map cs pair_of) ∙ ap length same ∙ sym (len-entries h)

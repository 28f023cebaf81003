-- What holds of each element of a list that is gone over.
use Rattle.std.specs.Prelude.{◌≡◌, ◌≢◌, ℕ, ◌+◌, ◌<◌, ◌≤◌, List, length, get_or, take, All}
use Rattle.std.proofs.Common.{subst}
use Rattle.std.proofs.lemmas.List.{take_all}
use Rattle.std.proofs.lemmas.List.Elements.{All-more, All-map}
use Rattle.std.specs.FinMap.{entries}
use Rattle.gh_assert.specs.Cells.{pair_of, pairs}
use Rattle.gh_assert.specs.Heaps.{Heap}
use Rattle.gh_assert.specs.declared.heap.Cell.{Cell}
use Rattle.gh_draw.specs.Drawn.{IsValue, IsDrawnCell}

pub one_more : {X : Type 0} (P : X → Type 0) (xs : List X) (i : ℕ) (x : X) → x ≡ get_or xs i x → i < length xs
    → All P (take i xs) → P x → All P (take (i + 1) xs)
one_more P xs i x is within done here = All-more P xs i x within done (subst P is here)

pub all_done : {X : Type 0} (P : X → Type 0) (xs : List X) (i : ℕ) → length xs ≤ i → All P (take i xs) → All P xs
all_done P xs i past done = subst (λ ys. All P ys) (take_all i xs past) done

-- the cells of a heap are drawn where their values are within 32 bits
pub cells_done : (cs : List Cell) (i : ℕ) (h : Heap) → length cs ≤ i → pairs cs ≡ entries h → All (λ c. c.at ≢ 0) cs
    → All (λ c. IsValue c.at × IsValue c.to) (take i cs) → All IsDrawnCell (entries h)
cells_done cs i h past same not_null done =
    let fit = all_done (λ (c : Cell). IsValue c.at × IsValue c.to) cs i past done in
    subst (λ ps. All IsDrawnCell ps) same
    (All-map IsDrawnCell pair_of cs
    (λ k d w. record { not_null = not_null k d w; place = (fit k d w).0; content = (fit k d w).1 }))

-- The number of the cell of a place.
use Rattle.std.specs.Prelude.{◌≡◌, ◌≢◌, ℕ, zero, suc, ◌<◌, ◌≤◌, ◌==◌, Bool, true, false, if◌then◌else◌, List, [], ◌∷◌}
use Rattle.std.specs.Prelude.{Option, Some, None, length, get_or, ltb, T, Result, Ok, Err, MatchResult}
use Rattle.std.specs.Option.{option_map}
use Rattle.std.specs.Result.{result_ok}
use Rattle.std.specs.Ordering.{nat_cmp}
use Rattle.std.specs.FinMap.{is_sorted}
use Rattle.std.proofs.Common.{refl, sym, subst, arith}
use Rattle.std.proofs.lemmas.Bool.Decides.{nat_tests}
use Rattle.gh_assert.specs.declared.heap.Cell.{Cell}
use Rattle.gh_assert.specs.Cells.{pairs, AreBelow, IsHere, IsGap}
use Rattle.gh_assert.proofs.CellLists.{rises}
use Rattle.gh_picture.specs.Spots.{number_in, no_cell}

later : (c : Cell) (cs : List Cell) (i at : ℕ) → AreBelow (c ∷ cs) (suc i) at → AreBelow cs i at
later c cs i at b k d h = b (suc k) d (omega arith)

same_test : (a b : ℕ) → a ≡ b → (a == b) ≡ true
same_test a b h = grind (arith, nat_tests)

other_test : (a b : ℕ) → a ≢ b → (a == b) ≡ false
other_test a b h = grind (arith, nat_tests)

number_here : (cs : List Cell) (i at : ℕ) (d : Cell) → AreBelow cs i at → i < length cs → (get_or cs i d).at ≡ at
    → number_in cs at ≡ Some i
number_here [] i at d b h e = absurd (omega arith)
number_here (c ∷ cs) zero at d b h e = rw (same_test c.at at e) refl
number_here (c ∷ cs) (suc i) at d b h e =
    let first : c.at < at = b 0 c (omega arith) in
    let other : c.at ≢ at = omega (arith, first) in
    rw (other_test c.at at other, number_here cs i at d (later c cs i at b) (omega arith) e) refl

pub number_none : (cs : List Cell) (at : ℕ) → ((k : ℕ) (d : Cell) → k < length cs → (get_or cs k d).at ≢ at)
    → number_in cs at ≡ None
number_none [] at h = refl
number_none (c ∷ cs) at h =
    let other : c.at ≢ at = h 0 c (omega arith) in
    rw (other_test c.at at other, number_none cs at (λ k d l. h (suc k) d (omega (arith, l)))) refl

gap_other : (cs : List Cell) (i at : ℕ) → T (is_sorted nat_cmp (pairs cs)) → IsGap cs at i → (k : ℕ) (d : Cell)
    → k < length cs → (get_or cs k d).at ≢ at
gap_other cs i at sorted gap k d l = by_order (ltb k i) refl
  where
    at_gap : i ≤ k → at < (get_or cs k d).at
    at_gap more = by_more (ltb i k) refl
      where
        by_more : (b : Bool) → ltb i k ≡ b → at < (get_or cs k d).at
        by_more true e =
            let less : i < k = grind (arith, nat_tests) in
            let up = rises cs sorted i k d less l in
            let above = gap.above d (omega (arith, less, l)) in
            omega (arith, up, above)
        by_more false e =
            let same : i ≡ k = grind (arith, nat_tests) in
            subst (λ (j : ℕ). at < (get_or cs j d).at) same (gap.above d (omega (arith, same, l)))

    by_order : (b : Bool) → ltb k i ≡ b → (get_or cs k d).at ≢ at
    by_order true e =
        let less : k < i = grind (arith, nat_tests) in
        let below = gap.below k d less in
        omega (arith, below)
    by_order false e =
        let more : i ≤ k = grind (arith, nat_tests) in
        let above = at_gap more in
        omega (arith, above)

-- what a search answers
pub number_found : (cs : List Cell) (at : ℕ) (r : Result ℕ ℕ) → T (is_sorted nat_cmp (pairs cs))
    → MatchResult r (IsHere cs at) (IsGap cs at) → number_in cs at ≡ result_ok r
number_found cs at (Ok i) sorted here = number_here cs i at no_cell here.below here.within (here.here no_cell)
number_found cs at (Err i) sorted gap = number_none cs at (gap_other cs i at sorted gap)

some_suc : (o : Option ℕ) (i : ℕ) → option_map suc o ≡ Some i → (j : ℕ) × (o ≡ Some j) × (i ≡ suc j)
some_suc None i e = absurd cc
some_suc (Some j) i e = (j, refl, cc)

-- the cell of a number that is found
pub number_some : (cs : List Cell) (at i : ℕ) (d : Cell) → number_in cs at ≡ Some i
    → (i < length cs) × ((get_or cs i d).at ≡ at)
number_some [] at i d e = absurd cc
number_some (c ∷ cs) at i d e = by_test (c.at == at) refl e (λ j f. number_some cs at j d f)
  where
    by_test : (b : Bool) → (c.at == at) ≡ b → (if b then Some 0 else option_map suc (number_in cs at)) ≡ Some i
        → ((j : ℕ) → number_in cs at ≡ Some j → (j < length cs) × ((get_or cs j d).at ≡ at))
        → (i < length (c ∷ cs)) × ((get_or (c ∷ cs) i d).at ≡ at)
    by_test true t h more =
        let first : 0 ≡ i = cc in
        subst (λ (k : ℕ). (k < length (c ∷ cs)) × ((get_or (c ∷ cs) k d).at ≡ at)) first
        (omega arith, grind (arith, nat_tests))
    by_test false t h more =
        let (j, found, is) = some_suc (number_in cs at) i h in
        let (within, here) = more j found in
        subst (λ (k : ℕ). (k < length (c ∷ cs)) × ((get_or (c ∷ cs) k d).at ≡ at)) (sym is)
        (omega (arith, within), here)

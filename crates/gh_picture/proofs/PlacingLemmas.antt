-- Cells that are placed in a line, one after the other.
use Rattle.std.specs.Prelude.{◌≡◌, ◌≢◌, ◌⊎◌, ℕ, zero, suc, ◌+◌, ◌<◌, Bool, true, false, List, [], ◌∷◌, map, Option}
use Rattle.std.specs.Prelude.{Some, None, is_none, is_some, length, get_or, set, IsSome, nat_eq}
use Rattle.std.specs.List.{count_by}
use Rattle.std.proofs.Common.{refl, sym, ◌∙◌, ap, subst, arith, inl, inr, cond, get_or-set_same, get_or-set_other}
use Rattle.std.proofs.Common.{length-set}
use Rattle.std.proofs.lemmas.Bool.Decides.{nat_tests}
use Rattle.std.proofs.lemmas.List.{length-map}
use Rattle.std.proofs.lemmas.List.Sums.{sum_by-set, count_by-le-length}
use Rattle.gh_assert.specs.declared.heap.Cell.{Cell}
use Rattle.gh_picture.proofs.Numbers.{number_some}
use Rattle.gh_picture.specs.Spots.{number_in, no_cell, no_spot, spot_at, AreSpots, cell_at, LeadsTo, MayFollow}
use Rattle.gh_picture.specs.Spots.{IsNoLater, right_of}
use Rattle.gh_picture.specs.Placing.{Board, spot_on, StandsAt, ShareNoSpot, StillStands, HasLines, IsBefore, IsAwaited}
use Rattle.gh_picture.specs.Placing.{IsLedTo, AreLists, IsLineBegun, IsOnLine}
use Rattle.gh_picture.specs.declared.layout.Spot.{Spot}

abbrev pub spot : ℕ → ℕ → Spot
spot line column = record { line = line; column = column }

pub same_or_other : (i j : ℕ) → (i ≡ j) ⊎ (i ≢ j)
same_or_other i j = by_test (nat_eq i j) refl
  where
    by_test : (b : Bool) → nat_eq i j ≡ b → (i ≡ j) ⊎ (i ≢ j)
    by_test true e = inl (grind (arith, nat_tests))
    by_test false e = inr (grind (arith, nat_tests))

stands_here : (b : Board) (i : ℕ) (s : Spot) → i < length b → StandsAt (set b i (Some s)) i s
stands_here b i s h = rw get_or-set_same

stands_there : (b : Board) (i j : ℕ) (s t : Spot) → j ≢ i → StandsAt b j t → StandsAt (set b i (Some s)) j t
stands_there b i j s t other h = rw get_or-set_other h

-- what stands after a cell is placed
after_set : (b : Board) (i j : ℕ) (s t : Spot) → i < length b → StandsAt (set b i (Some s)) j t
    → ((j ≡ i) × (t ≡ s)) ⊎ ((j ≢ i) × StandsAt b j t)
after_set b i j s t h stands = by_place (same_or_other j i)
  where
    by_place : (j ≡ i) ⊎ (j ≢ i) → ((j ≡ i) × (t ≡ s)) ⊎ ((j ≢ i) × StandsAt b j t)
    by_place (inl same) =
        let moved : StandsAt (set b i (Some s)) i t = subst (λ (k : ℕ). StandsAt (set b i (Some s)) k t) same stands in
        let here : StandsAt (set b i (Some s)) i s = stands_here b i s h in
        let both : Some t ≡ Some s = sym moved ∙ here in
        inl (same, cc)
    by_place (inr other) =
        let there : spot_on (set b i (Some s)) j ≡ spot_on b j = rw get_or-set_other in
        inr (other, sym there ∙ stands)

-- a line is begun at any cell
pub begun : (cs : List Cell) (b : Board) (line from : ℕ) → HasLines cs b line → from < length cs
    → IsLineBegun cs b line 0 from
begun cs b line from lines within = record {
  one_each = lines.one_each;
  some = lines.some;
  from_one = lines.from_one;
  within = within;
  room = omega (arith, count_by-le-length is_none b, lines.one_each);
  before = λ i s h. inl (lines.above i s h);
  apart = lines.apart;
  in_lines = λ i j s h leads. inl (lines.in_lines i j s h leads);
  lists = lines.lists;
  comes = λ some. absurd (omega (arith, some));
}

-- the line has come to a cell that stands: it ends
pub closes : (cs : List Cell) (b : Board) (line column next : ℕ) (t : Spot) → IsLineBegun cs b line column next
    → StandsAt b next t → HasLines cs b (line + 1)
closes cs b line column next t begun stands = record {
  one_each = begun.one_each;
  some = omega arith;
  from_one = begun.from_one;
  above = λ i s h. above s (begun.before i s h);
  apart = begun.apart;
  in_lines = λ i j s h leads. joined i j s (begun.in_lines i j s h leads);
  lists = begun.lists;
}
  where
    above : (s : Spot) → IsBefore line column s → s.line < line + 1
    above s (inl h) = omega (arith, h)
    above s (inr h) = omega (arith, h.0)

    no_later : (s : Spot) → right_of s ≡ spot line column → IsBefore line column t → IsNoLater t s
    no_later s e (inl h) =
        let same : s.line ≡ line = ap (λ (z : Spot). z.line) e in
        inl (omega (arith, h, same))
    no_later s e (inr h) =
        let same : s.line ≡ line = ap (λ (z : Spot). z.line) e in
        let one : s.column + 1 ≡ column = ap (λ (z : Spot). z.column) e in
        inr (h.0 ∙ sym same, omega (arith, h.1, one))

    joined : (i j : ℕ) (s : Spot) → ((u : Spot) × StandsAt b j u × MayFollow s u) ⊎ IsAwaited line column next s j
        → (u : Spot) × StandsAt b j u × MayFollow s u
    joined i j s (inl h) = h
    joined i j s (inr h) = (
      t,
      subst (λ (k : ℕ). StandsAt b k t) (sym h.0) stands,
      inr (no_later s h.1 (begun.before next t stands)),
    )

abbrev pub placed : Board → ℕ → ℕ → ℕ → Board
placed b line column next = set b next (Some (spot line column))

pub inside : (cs : List Cell) (b : Board) (line column next : ℕ) → IsLineBegun cs b line column next → next < length b
inside cs b line column next begun = omega (arith, begun.within, begun.one_each)

pub placed_kept : (b : Board) (line column next : ℕ) → spot_on b next ≡ None → StillStands b (placed b line column next)
placed_kept b line column next free i s h = by_place (same_or_other i next)
  where
    by_place : (i ≡ next) ⊎ (i ≢ next) → StandsAt (placed b line column next) i s
    by_place (inl same) =
        let none : spot_on b i ≡ None = subst (λ (k : ℕ). spot_on b k ≡ None) (sym same) free in
        let both : None ≡ Some s = sym none ∙ h in
        absurd cc
    by_place (inr other) = stands_there b next i (spot line column) s other h

placed_apart : (cs : List Cell) (b : Board) (line column next : ℕ) → IsLineBegun cs b line column next
    → ShareNoSpot (placed b line column next)
placed_apart cs b line column next begun i j s differ hi hj =
    by_both (after_set b next i (spot line column) s (inside cs b line column next begun) hi)
    (after_set b next j (spot line column) s (inside cs b line column next begun) hj)
  where
    fresh : (k : ℕ) → StandsAt b k s → s ≡ spot line column → ⊥
    fresh k h e = by_before (begun.before k s h)
      where
        by_before : IsBefore line column s → ⊥
        by_before (inl less) = omega (arith, less, ap (λ (z : Spot). z.line) e)
        by_before (inr less) = omega (arith, less.1, ap (λ (z : Spot). z.column) e)

    by_both : ((i ≡ next) × (s ≡ spot line column)) ⊎ ((i ≢ next) × StandsAt b i s)
        → ((j ≡ next) × (s ≡ spot line column)) ⊎ ((j ≢ next) × StandsAt b j s) → ⊥
    by_both (inl a) (inl c) = differ (a.0 ∙ sym c.0)
    by_both (inl a) (inr c) = fresh j c.1 a.1
    by_both (inr a) (inl c) = fresh i a.1 c.1
    by_both (inr a) (inr c) = begun.apart i j s differ a.1 c.1

placed_before : (cs : List Cell) (b : Board) (line column next : ℕ) → IsLineBegun cs b line column next
    → (i : ℕ) (s : Spot) → StandsAt (placed b line column next) i s → IsBefore line (column + 1) s
placed_before cs b line column next begun i s h =
    by_set (after_set b next i (spot line column) s (inside cs b line column next begun) h)
  where
    further : IsBefore line column s → IsBefore line (column + 1) s
    further (inl less) = inl less
    further (inr less) = inr (less.0, omega (arith, less.1))

    by_set : ((i ≡ next) × (s ≡ spot line column)) ⊎ ((i ≢ next) × StandsAt b i s) → IsBefore line (column + 1) s
    by_set (inl a) = inr (ap (λ (z : Spot). z.line) a.1, omega (arith, ap (λ (z : Spot). z.column) a.1))
    by_set (inr a) = further (begun.before i s a.1)

placed_from_one : (cs : List Cell) (b : Board) (line column next : ℕ) → IsLineBegun cs b line column next
    → (i : ℕ) (s : Spot) → StandsAt (placed b line column next) i s → 0 < s.line
placed_from_one cs b line column next begun i s h =
    by_set (after_set b next i (spot line column) s (inside cs b line column next begun) h)
  where
    by_set : ((i ≡ next) × (s ≡ spot line column)) ⊎ ((i ≢ next) × StandsAt b i s) → 0 < s.line
    by_set (inl a) = omega (arith, ap (λ (z : Spot). z.line) a.1, begun.some)
    by_set (inr a) = begun.from_one i s a.1

-- one cell fewer is to be placed
pub placed_fewer : (b : Board) (line column next : ℕ) → next < length b → spot_on b next ≡ None
    → count_by is_none (placed b line column next) + 1 ≡ count_by is_none b
placed_fewer b line column next h free =
    let count : Option Spot → ℕ = λ o. cond (is_none o) 1 0 in
    let was : count (spot_on b next) ≡ 1 = ap count free in
    omega (arith, sum_by-set count b next (Some (spot line column)) None h, was)

-- what a cell leads to, after the next is placed
placed_lines : (cs : List Cell) (b : Board) (line column next : ℕ) → IsLineBegun cs b line column next
    → spot_on b next ≡ None
    → (i j : ℕ) (s : Spot) → i ≢ next → StandsAt b i s → LeadsTo cs i j
    → (t : Spot) × StandsAt (placed b line column next) j t × MayFollow s t
placed_lines cs b line column next begun free i j s other h leads = by_old (begun.in_lines i j s h leads)
  where
    by_old : ((t : Spot) × StandsAt b j t × MayFollow s t) ⊎ IsAwaited line column next s j
        → (t : Spot) × StandsAt (placed b line column next) j t × MayFollow s t
    by_old (inl (t, stands, follows)) = (t, placed_kept b line column next free j t stands, follows)
    by_old (inr (is, right)) =
        let here : StandsAt (placed b line column next) next (spot line column) =
        stands_here b next (spot line column) (inside cs b line column next begun) in (
          spot line column,
          subst (λ (k : ℕ). StandsAt (placed b line column next) k (spot line column)) (sym is) here,
          inl (sym right),
        )

-- a cell to which another leads stays so
led_to_stays : (cs : List Cell) (old new : Board) (j : ℕ) (t : Spot) → StillStands old new → IsLedTo cs old j t
    → IsLedTo cs new j t
led_to_stays cs old new j t kept (i, s, stands, leads, right) = (i, s, kept i s stands, leads, right)

placed_lists : (cs : List Cell) (b : Board) (line column next : ℕ) → IsLineBegun cs b line column next
    → spot_on b next ≡ None → AreLists cs (placed b line column next)
placed_lists cs b line column next begun free j t h some =
    by_set (after_set b next j (spot line column) t (inside cs b line column next begun) h)
  where
    kept : StillStands b (placed b line column next)
    kept = placed_kept b line column next free

    by_set : ((j ≡ next) × (t ≡ spot line column)) ⊎ ((j ≢ next) × StandsAt b j t)
        → IsLedTo cs (placed b line column next) j t
    by_set (inl (is, here)) =
        let column_is : t.column ≡ column = ap (λ (z : Spot). z.column) here in
        let (i, s, stands, leads, right) = begun.comes (omega (arith, some, column_is)) in (
          i,
          s,
          kept i s stands,
          (leads.0, subst (λ (k : ℕ). number_in cs (cell_at cs i).to ≡ Some k) (sym is) leads.1),
          here ∙ right,
        )
    by_set (inr (differs, stands)) =
        led_to_stays cs b (placed b line column next) j t kept (begun.lists j t stands some)

-- the cell leads to another: the line goes on there
pub goes_on : (cs : List Cell) (b : Board) (line column next other : ℕ) → IsLineBegun cs b line column next
    → spot_on b next ≡ None
    → number_in cs (cell_at cs next).to ≡ Some other → other < length cs
    → IsLineBegun cs (placed b line column next) line (column + 1) other
goes_on cs b line column next other begun free leads within = record {
  one_each = length-set b next (Some (spot line column)) ∙ begun.one_each;
  some = begun.some;
  from_one = placed_from_one cs b line column next begun;
  within = within;
  room = omega (arith, placed_fewer b line column next (inside cs b line column next begun) free, begun.room);
  before = placed_before cs b line column next begun;
  apart = placed_apart cs b line column next begun;
  in_lines =
      λ i j s h to. by_set i j s to (after_set b next i (spot line column) s (inside cs b line column next begun) h);
  lists = placed_lists cs b line column next begun free;
  comes = λ some. (
    next,
    spot line column,
    stands_here b next (spot line column) (inside cs b line column next begun),
    (begun.within, leads),
    refl,
  );
}
  where
    by_set : (i j : ℕ) (s : Spot) → LeadsTo cs i j
        → ((i ≡ next) × (s ≡ spot line column)) ⊎ ((i ≢ next) × StandsAt b i s)
        → ((t : Spot) × StandsAt (placed b line column next) j t × MayFollow s t)
        ⊎ IsAwaited line (column + 1) other s j
    by_set i j s to (inl (is, here)) =
        let mine : number_in cs (cell_at cs next).to ≡ Some j =
        subst (λ (k : ℕ). number_in cs (cell_at cs k).to ≡ Some j) is to.1 in
        let both : Some j ≡ Some other = sym mine ∙ leads in
        inr (cc, ap right_of here)
    by_set i j s to (inr (differs, stands)) =
        inl (placed_lines cs b line column next begun free i j s differs stands to)

-- the cell leads to none: the line ends
pub ends : (cs : List Cell) (b : Board) (line column next : ℕ) → IsLineBegun cs b line column next
    → spot_on b next ≡ None
    → number_in cs (cell_at cs next).to ≡ None → HasLines cs (placed b line column next) (line + 1)
ends cs b line column next begun free leads = record {
  one_each = length-set b next (Some (spot line column)) ∙ begun.one_each;
  some = omega arith;
  from_one = placed_from_one cs b line column next begun;
  above = λ i s h. above s (placed_before cs b line column next begun i s h);
  apart = placed_apart cs b line column next begun;
  in_lines =
      λ i j s h to. by_set i j s to (after_set b next i (spot line column) s (inside cs b line column next begun) h);
  lists = placed_lists cs b line column next begun free;
}
  where
    above : (s : Spot) → IsBefore line (column + 1) s → s.line < line + 1
    above s (inl h) = omega (arith, h)
    above s (inr h) = omega (arith, h.0)

    by_set : (i j : ℕ) (s : Spot) → LeadsTo cs i j
        → ((i ≡ next) × (s ≡ spot line column)) ⊎ ((i ≢ next) × StandsAt b i s)
        → (t : Spot) × StandsAt (placed b line column next) j t × MayFollow s t
    by_set i j s to (inl (is, here)) =
        let mine : number_in cs (cell_at cs next).to ≡ Some j =
        subst (λ (k : ℕ). number_in cs (cell_at cs k).to ≡ Some j) is to.1 in
        let both : None ≡ Some j = sym leads ∙ mine in
        absurd cc
    by_set i j s to (inr (differs, stands)) = placed_lines cs b line column next begun free i j s differs stands to

pub free_of : (o : Option Spot) → is_some o ≡ false → o ≡ None
free_of None e = refl
free_of (Some s) e = absurd cc

pub stands_of : (o : Option Spot) → is_some o ≡ true → (s : Spot) × (o ≡ Some s)
stands_of None e = absurd cc
stands_of (Some s) e = (s, refl)

is_some_of : (o : Option Spot) (s : Spot) → o ≡ Some s → IsSome o
is_some_of o s e = subst (λ (p : Option Spot). IsSome p) (sym e) refl

-- a cell that stands goes on standing
pub still_stands : (old new : Board) (i : ℕ) → StillStands old new → IsSome (spot_on old i) → IsSome (spot_on new i)
still_stands old new i kept h =
    let (s, e) = stands_of (spot_on old i) h in
    is_some_of (spot_on new i) s (kept i s e)

-- where the line has begun stands, once its first cell is placed
pub start_stands : (b : Board) (line column next from : ℕ) → next < length b → spot_on b next ≡ None
    → (next ≡ from) ⊎ IsSome (spot_on b from)
    → IsSome (spot_on (placed b line column next) from)
start_stands b line column next from h free (inl same) =
    subst (λ (k : ℕ). IsSome (spot_on (placed b line column next) k)) same
    (is_some_of (spot_on (placed b line column next) next) (spot line column)
    (stands_here b next (spot line column) h))
start_stands b line column next from h free (inr stands) =
    still_stands b (placed b line column next) from (placed_kept b line column next free) stands

-- the first cell of a line stands at its beginning, once it is placed
pub line_stays : (b : Board) (line column next from : ℕ) → next < length b → spot_on b next ≡ None
    → IsOnLine b line from next column
    → StandsAt (placed b line column next) from (spot line 0)
line_stays b line column next from h free (inl (same, first, none)) =
    let at : StandsAt (placed b line column next) from (spot line column) =
    subst (λ (k : ℕ). StandsAt (placed b line column next) k (spot line column)) same
    (stands_here b next (spot line column) h) in
    subst (λ (n : ℕ). StandsAt (placed b line column next) from (spot line n)) first at
line_stays b line column next from h free (inr stands) = placed_kept b line column next free from (spot line 0) stands

-- and so it does where a line ends at a cell that stands
pub line_closes : (b : Board) (line column next from : ℕ) (t : Spot) → StandsAt b next t
    → IsOnLine b line from next column → StandsAt b from (spot line 0)
line_closes b line column next from t at (inl (same, first, none)) =
    let here : StandsAt b from t = subst (λ (k : ℕ). StandsAt b k t) same at in
    let both : None ≡ Some t = sym none ∙ here in
    absurd cc
line_closes b line column next from t at (inr stands) = stands

-- where a cell stands, by the list of spots
pub listed : (ss : List Spot) (i : ℕ) → i < length ss → get_or (map Some ss) i None ≡ Some (get_or ss i no_spot)
listed [] i h = absurd (omega (arith, h))
listed (s ∷ ss) zero h = refl
listed (s ∷ ss) (suc i) h = listed ss i (omega (arith, h))

-- when all cells stand, each has its spot
pub all_spots : (cs : List Cell) (b : Board) (line : ℕ) (ss : List Spot) → HasLines cs b line → map Some ss ≡ b
    → AreSpots cs ss
all_spots cs b line ss lines is = record {
  one_each = count;
  apart = λ i j less within same.
      let first : StandsAt b i (spot_at ss j) =
      stands i (omega (arith, less, within)) ∙ ap (λ (s : Spot). Some s) same in
      lines.apart i j (spot_at ss j) (omega (arith, less)) first (stands j within);
  in_lines = λ i j leads. follows i j leads (lines.in_lines i j (spot_at ss i) (stands i leads.0) leads);
  lists = λ j within some. led_to j (lines.lists j (spot_at ss j) (stands j within) some);
}
  where
    count : length ss ≡ length cs
    count = sym (length-map ss (λ (s : Spot). Some s)) ∙ ap length is ∙ lines.one_each

    stands : (i : ℕ) → i < length cs → StandsAt b i (spot_at ss i)
    stands i h =
        subst (λ (c : Board). StandsAt c i (spot_at ss i)) is (listed ss i (omega (arith, h, count)))

    follows : (i j : ℕ) → LeadsTo cs i j → (t : Spot) × StandsAt b j t × MayFollow (spot_at ss i) t
        → MayFollow (spot_at ss i) (spot_at ss j)
    follows i j leads (t, there, is_next) =
        let within : j < length cs = (number_some cs (cell_at cs i).to j no_cell leads.1).0 in
        let both : Some t ≡ Some (spot_at ss j) = sym there ∙ stands j within in
        let same : t ≡ spot_at ss j = cc in
        subst (λ (u : Spot). MayFollow (spot_at ss i) u) same is_next

    led_to : (j : ℕ) → IsLedTo cs b j (spot_at ss j)
        → (i : ℕ) × LeadsTo cs i j × (spot_at ss j ≡ right_of (spot_at ss i))
    led_to j (i, s, there, leads, right) =
        let both : Some s ≡ Some (spot_at ss i) = sym there ∙ stands i leads.0 in
        let same : s ≡ spot_at ss i = cc in
        (i, leads, right ∙ ap right_of same)

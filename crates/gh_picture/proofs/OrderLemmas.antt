-- The order in which cells begin lines.
use Rattle.std.specs.Prelude.{◌≡◌, ◌≢◌, ◌⊎◌, ℕ, zero, suc, ◌+◌, ◌<◌, ◌≤◌, Bool, true, false, if◌then◌else◌, List, []}
use Rattle.std.specs.Prelude.{◌∷◌, ◌++◌, map, take, drop, get_or, length, Option, Some, None, IsSome, All}
use Rattle.std.proofs.Common.{refl, sym, ◌∙◌, ap, subst, arith, inl, inr}
use Rattle.std.proofs.Math.Seq.{drop-append_seam}
use Rattle.std.proofs.lemmas.List.{drop_more, take-append-drop}
use Rattle.std.proofs.lemmas.List.Elements.{All-nil, All-cons, All-append, All-drop, All-head, All-tail, All-more}
use Rattle.std.proofs.lemmas.List.Elements.{All-weaker}
use Rattle.gh_assert.specs.declared.heap.Cell.{Cell}
use Rattle.gh_assert.specs.declared.store.Entry.{Entry}
use Rattle.gh_picture.proofs.Numbers.{number_some}
use Rattle.gh_picture.proofs.PlacingLemmas.{listed, same_or_other, spot, stands_of}
use Rattle.gh_picture.specs.Placing.{Board, spot_on, StandsAt, StillStands, HasLines, AllPlaced, EachStands, MayBegin}
use Rattle.gh_picture.specs.Placing.{StandsAbove, BeginsOn, AllBegin}
use Rattle.gh_picture.specs.Spots.{number_in, no_cell, spot_at, is_led_to, heads, numbers, with_number, pointed}
use Rattle.gh_picture.specs.Spots.{order_of, BeginsLine, AreInOrder, AreWithin}
use Rattle.gh_picture.specs.declared.layout.Spot.{Spot}

-- the heads from a number on
left_out : (b : Bool) (k : ℕ) (ns : List ℕ) → b ≡ true → (if b then ns else k ∷ ns) ≡ ns
left_out true k ns e = refl
left_out false k ns e = absurd cc

put_in : (b : Bool) (k : ℕ) (ns : List ℕ) → b ≡ false → (if b then ns else k ∷ ns) ≡ k ∷ ns
put_in false k ns e = refl
put_in true k ns e = absurd cc

pub no_head : (cells : List Cell) (k : ℕ) → k < length cells → is_led_to cells k ≡ true
    → heads cells k (drop k cells) ≡ heads cells (k + 1) (drop (k + 1) cells)
no_head cells k h led =
    let one : suc k ≡ k + 1 = omega arith in
    ap (heads cells k) (drop_more cells k no_cell h)
    ∙ left_out (is_led_to cells k) k (heads cells (suc k) (drop (k + 1) cells)) led
    ∙ ap (λ (n : ℕ). heads cells n (drop (k + 1) cells)) one

pub a_head : (cells : List Cell) (k : ℕ) → k < length cells → is_led_to cells k ≡ false
    → heads cells k (drop k cells) ≡ k ∷ heads cells (k + 1) (drop (k + 1) cells)
a_head cells k h led =
    let one : suc k ≡ k + 1 = omega arith in
    ap (heads cells k) (drop_more cells k no_cell h)
    ∙ put_in (is_led_to cells k) k (heads cells (suc k) (drop (k + 1) cells)) led
    ∙ ap (λ (n : ℕ). k ∷ heads cells n (drop (k + 1) cells)) one

pub next_number : (cells : List Cell) (k : ℕ) → k < length cells
    → numbers k (drop k cells) ≡ k ∷ numbers (k + 1) (drop (k + 1) cells)
next_number cells k h =
    let one : suc k ≡ k + 1 = omega arith in
    ap (numbers k) (drop_more cells k no_cell h) ∙ ap (λ (n : ℕ). k ∷ numbers n (drop (k + 1) cells)) one

-- all of the order are numbers of cells
heads_within : (cells : List Cell) (n k : ℕ) (cs : List Cell) → k + length cs ≤ n → All (λ i. i < n) (heads cells k cs)
heads_within cells n k [] h = All-nil (λ i. i < n)
heads_within cells n k (c ∷ cs) h = by_test (is_led_to cells k) (heads_within cells n (suc k) cs (omega (arith, h)))
  where
    by_test : (b : Bool) → All (λ i. i < n) (heads cells (suc k) cs)
        → All (λ i. i < n) (if b then heads cells (suc k) cs else k ∷ heads cells (suc k) cs)
    by_test true later = later
    by_test false later = All-cons (λ i. i < n) k (heads cells (suc k) cs) (omega (arith, h)) later

numbers_within : (n k : ℕ) (cs : List Cell) → k + length cs ≤ n → All (λ i. i < n) (numbers k cs)
numbers_within n k [] h = All-nil (λ i. i < n)
numbers_within n k (c ∷ cs) h =
    All-cons (λ i. i < n) k (numbers (suc k) cs) (omega (arith, h)) (numbers_within n (suc k) cs (omega (arith, h)))

pointed_within : (cells : List Cell) (es : List Entry) → AreWithin cells (pointed cells es)
pointed_within cells [] = All-nil (λ i. i < length cells)
pointed_within cells (e ∷ es) = by_number (number_in cells e.value) refl (pointed_within cells es)
  where
    by_number : (o : Option ℕ) → number_in cells e.value ≡ o → AreWithin cells (pointed cells es)
        → AreWithin cells (with_number o (pointed cells es))
    by_number None is later = later
    by_number (Some i) is later =
        All-cons (λ i. i < length cells) i (pointed cells es) (number_some cells e.value i no_cell is).0 later

pub order_within : (cells : List Cell) (es : List Entry) → AreWithin cells (order_of cells es)
order_within cells es =
    let P : ℕ → Type 0 = λ i. i < length cells in
    All-append P (heads cells 0 cells ++ pointed cells es) (numbers 0 cells)
    (All-append P (heads cells 0 cells) (pointed cells es) (heads_within cells (length cells) 0 cells (omega arith))
    (pointed_within cells es))
    (numbers_within (length cells) 0 cells (omega arith))

-- and each cell is in the order
of_number : (P : ℕ → Type 0) (k : ℕ) (cs : List Cell) → All P (numbers k cs) → (i : ℕ) → i < length cs → P (k + i)
of_number P k [] all i h = absurd (omega (arith, h))
of_number P k (c ∷ cs) all zero h =
    let same : k ≡ k + 0 = omega arith in
    subst P same (All-head P k (numbers (suc k) cs) all)
of_number P k (c ∷ cs) all (suc i) h =
    let same : suc k + i ≡ k + suc i = omega arith in
    subst P same (of_number P (suc k) cs (All-tail P k (numbers (suc k) cs) all) i (omega (arith, h)))

pub all_stand : (cells : List Cell) (es : List Entry) (b : Board) → EachStands b (order_of cells es)
    → AllPlaced b (length cells)
all_stand cells es b each i h =
    let P : ℕ → Type 0 = λ j. IsSome (spot_on b j) in
    let front = heads cells 0 cells ++ pointed cells es in
    let later : All P (numbers 0 cells) =
    subst (All P) (drop-append_seam front (numbers 0 cells))
    (All-drop P (length front) (front ++ numbers 0 cells) each) in
    let same : 0 + i ≡ i = omega arith in
    subst P same (of_number P 0 cells later i h)

-- what begins a line goes on doing so
stays : (order : List ℕ) (old new : Board) (line : ℕ) → StillStands old new
    → BeginsOn order old line → BeginsOn order new line
stays order old new line kept b = record {
  before = b.before;
  first = b.first;
  after = b.after;
  split = b.split;
  begins = kept b.first (spot line 0) b.begins;
  earlier =
      All-weaker (StandsAbove old line) (StandsAbove new line) (λ i at. (at.0, kept i at.0 at.1, at.2)) b.before
      b.earlier;
}

split_at : (xs : List ℕ) (i d : ℕ) → i < length xs → xs ≡ take i xs ++ get_or xs i d ∷ drop (i + 1) xs
split_at xs i d h = sym (take-append-drop i xs) ∙ ap (λ (ys : List ℕ). take i xs ++ ys) (drop_more xs i d h)

-- the next cell of the order begins a line, or stands already
pub next_begins : (cells : List Cell) (order : List ℕ) (i d : ℕ) (old new : Board) (line next : ℕ) → i < length order
    → HasLines cells old line
    → StillStands old new → MayBegin new line (get_or order i d) next → EachStands old (take i order)
    → AllBegin order old line → AllBegin order new next
next_begins cells order i d old new line next h lines kept (inl same) stand begun k some less =
    stays order old new k kept (begun k some (omega (arith, less, same)))
next_begins cells order i d old new line next h lines kept (inr (one, here)) stand begun k some less =
    by_line (same_or_other k line)
  where
    above : (j : ℕ) → IsSome (spot_on old j) → StandsAbove new line j
    above j there =
        let (s, at) = stands_of (spot_on old j) there in
        (s, kept j s at, lines.above j s at)

    by_line : (k ≡ line) ⊎ (k ≢ line) → BeginsOn order new k
    by_line (inl same) =
        subst (BeginsOn order new) (sym same)
        (record {
          before = take i order;
          first = get_or order i d;
          after = drop (i + 1) order;
          split = split_at order i d h;
          begins = here;
          earlier = All-weaker (λ j. IsSome (spot_on old j)) (StandsAbove new line) above (take i order) stand;
        })
    by_line (inr other) = stays order old new k kept (begun k some (omega (arith, less, one, other)))

-- the next cell of the order stands, too
pub next_stands : (order : List ℕ) (i d : ℕ) (old new : Board) → i < length order → StillStands old new
    → IsSome (spot_on new (get_or order i d))
    → EachStands old (take i order) → EachStands new (take (i + 1) order)
next_stands order i d old new h kept here stand =
    let P : ℕ → Type 0 = λ j. IsSome (spot_on new j) in
    All-more P order i d h (All-weaker (λ j. IsSome (spot_on old j)) P still (take i order) stand) here
  where
    still : (j : ℕ) → IsSome (spot_on old j) → IsSome (spot_on new j)
    still j there =
        let (s, at) = stands_of (spot_on old j) there in
        subst (λ (o : Option Spot). IsSome o) (sym (kept j s at)) refl

-- the spots of a board
spot_is : (ss : List Spot) (i : ℕ) (s : Spot) → get_or (map Some ss) i None ≡ Some s → spot_at ss i ≡ s
spot_is [] i s e = absurd cc
spot_is (t ∷ ss) zero s e = cc
spot_is (t ∷ ss) (suc i) s e = spot_is ss i s e

begins_line : (order : List ℕ) (ss : List Spot) (line : ℕ)
    → BeginsOn order (map Some ss) line → BeginsLine order ss line
begins_line order ss line b = record {
  before = b.before;
  first = b.first;
  after = b.after;
  split = b.split;
  begins = spot_is ss b.first (spot line 0) b.begins;
  earlier =
      All-weaker (StandsAbove (map Some ss) line) (λ i. (spot_at ss i).line < line) (λ i at. above i at.0 at.1 at.2)
      b.before b.earlier;
}
  where
    above : (i : ℕ) (s : Spot) → StandsAt (map Some ss) i s → s.line < line → (spot_at ss i).line < line
    above i s at less = subst (λ (t : Spot). t.line < line) (sym (spot_is ss i s at)) less

placed_in_order : (cells : List Cell) (order : List ℕ) (ss : List Spot) (line : ℕ)
    → HasLines cells (map Some ss) line → AllBegin order (map Some ss) line → AreInOrder order ss
placed_in_order cells order ss line lines begun = record {
  from_one = λ j h. lines.from_one j (spot_at ss j) (listed ss j h);
  begin = λ j k h some less.
      let above : (spot_at ss j).line < line = lines.above j (spot_at ss j) (listed ss j h) in
      begins_line order ss k (begun k some (omega (arith, less, above)));
}

pub in_order : (cells : List Cell) (order : List ℕ) (b : Board) (line : ℕ) (ss : List Spot)
    → HasLines cells b line → AllBegin order b line → map Some ss ≡ b → AreInOrder order ss
in_order cells order b line ss lines begun is =
    placed_in_order cells order ss line (subst (λ (c : Board). HasLines cells c line) (sym is) lines)
    (subst (λ (c : Board). AllBegin order c line) (sym is) begun)

-- Ascending cells and their map.
use Rattle.std.proofs.Common.{◌≡◌, ◌≢◌, ℕ, inl, inr, Result, Ok, Err, cond, Option, zero, suc, ◌<◌, ◌≤◌, List, [], ◌∷◌}
use Rattle.std.proofs.Common.{length, get_or, set, take, drop, Some, None, Ordering, Less, Equal, Greater, Bool, true}
use Rattle.std.proofs.Common.{false, nat_cmp, refl, sym, ap, ◌∙◌, arith, subst}
use Rattle.std.specs.Prelude.{T, not, ◌&&◌, insert, remove, All, MatchResult}
use Rattle.std.specs.Ordering.{is_lt, eq_by_cmp, ordering_index}
use Rattle.std.specs.FinMap.{FinMap, find, put, is_sorted, entries, from_sorted, same_entries_map, entries-from_sorted}
use Rattle.std.specs.FinMap.{entries-insert, insert as insert_key, remove as remove_key, get, get-from_sorted}
use Rattle.std.specs.FinMap.{get-remove, nat_cmp-IsAntisymmetric}
use Rattle.std.specs.Cmp.{nat_cmp_total}
use Rattle.std.specs.FinMap.Entries.{below_all, where_key, is_sorted-put, is_sorted-where_key, find-where_key}
use Rattle.std.specs.List.Sorted.{IsBinarySearchResult, IsSearchInRange}
use Rattle.std.proofs.lemmas.Bool.{cases_eq, cases_lt}
use Rattle.std.proofs.lemmas.Bool.Decides.{nat_tests}
use Rattle.std.proofs.lemmas.List.Elements.{All-set, All-append, All-take, All-drop}
use Rattle.gh_assert.specs.Heaps.{Heap}
use Rattle.gh_assert.proofs.Unique.{get_removed, get_kept}
use Rattle.gh_assert.proofs.Cells.{by_look_ups}
use Rattle.gh_assert.specs.Cells.{heap_of, pairs, pair_of, AreBelow, AreCells, IsHere, IsGap}
use Rattle.gh_assert.specs.declared.heap.Cell.{Cell}

abbrev pub cell : ℕ → ℕ → Cell
cell at to = record { at = at; to = to }

cmp_less : (a b : ℕ) → a < b → nat_cmp a b ≡ Less
cmp_less a b h = grind (arith, nat_tests)

cmp_same : (a b : ℕ) → a ≡ b → nat_cmp a b ≡ Equal
cmp_same a b h = grind (arith, nat_tests)

cmp_more : (a b : ℕ) → b < a → nat_cmp a b ≡ Greater
cmp_more a b h = grind (arith, nat_tests)

later : (c : Cell) (cs : List Cell) (i at : ℕ) → AreBelow (c ∷ cs) (suc i) at → AreBelow cs i at
later c cs i at b k d h = b (suc k) d (omega arith)

pub put_over : (cs : List Cell) (i at to : ℕ) (d : Cell) → AreBelow cs i at → i < length cs → (get_or cs i d).at ≡ at
    → put nat_cmp at to (pairs cs) ≡ pairs (set cs i (cell at to))
put_over [] i at to d b h e = absurd (omega arith)
put_over (c ∷ cs) zero at to d b h e = rw (cmp_same at c.at (sym e)) (ap (λ x. (x, to) ∷ pairs cs) e)
put_over (c ∷ cs) (suc i) at to d b h e =
    let first = b 0 c (omega arith) in
    rw (cmp_more at c.at first)
    (ap (λ x. pair_of c ∷ x) (put_over cs i at to d (later c cs i at b) (omega arith) e))

pub put_new : (cs : List Cell) (i at to : ℕ) → AreBelow cs i at → ((d : Cell) → i < length cs → at < (get_or cs i d).at)
    → i ≤ length cs → put nat_cmp at to (pairs cs) ≡ pairs (insert cs i (cell at to))
put_new [] zero at to b a h = refl
put_new [] (suc i) at to b a h = absurd (omega arith)
put_new (c ∷ cs) zero at to b a h = let next = a c (omega arith) in rw (cmp_less at c.at next) refl
put_new (c ∷ cs) (suc i) at to b a h =
    let first = b 0 c (omega arith) in
    rw (cmp_more at c.at first)
    (ap (λ x. pair_of c ∷ x) (put_new cs i at to (later c cs i at b) (λ d l. a d (omega arith)) (omega arith)))

pub find_here : (cs : List Cell) (i at : ℕ) (d : Cell) → AreBelow cs i at → i < length cs → (get_or cs i d).at ≡ at
    → find nat_cmp at (pairs cs) ≡ Some (get_or cs i d).to
find_here [] i at d b h e = absurd (omega arith)
find_here (c ∷ cs) zero at d b h e = rw (cmp_same at c.at (sym e)) refl
find_here (c ∷ cs) (suc i) at d b h e = let first = b 0 c (omega arith) in
    rw (cmp_more at c.at first) (find_here cs i at d (later c cs i at b) (omega arith) e)

pub first_of : (a b : Bool) → T (a && b) → T a
first_of true b p = tt
first_of false b p = p

pub second_of : (a b : Bool) → T (a && b) → T b
second_of true b p = p
second_of false b p = absurd p

less_of : (o : Ordering) → T (is_lt o) → o ≡ Less
less_of Less p = refl
less_of Equal p = absurd p
less_of Greater p = absurd p

lt_of : (a b : ℕ) → nat_cmp a b ≡ Less → a < b
lt_of a b e = grind (arith, nat_tests)

far : (at x : ℕ) (es : List (ℕ × ℕ)) → at < x → T (below_all nat_cmp x es) → find nat_cmp at es ≡ None
far at x [] h b = refl
far at x (e ∷ es) h b =
    let y : x < e.0 = lt_of x e.0 (less_of (nat_cmp x e.0) (first_of _ _ b)) in
    rw (cmp_less at e.0 (omega (arith, h, y))) (far at x es h (second_of _ _ b))

pub find_none : (cs : List Cell) (i at : ℕ) → AreBelow cs i at → ((d : Cell) → i < length cs → at < (get_or cs i d).at)
    → T (is_sorted nat_cmp (pairs cs)) → find nat_cmp at (pairs cs) ≡ None
find_none [] i at b a s = refl
find_none (c ∷ cs) zero at b a s = let next = a c (omega arith) in
    rw (cmp_less at c.at next) (far at c.at (pairs cs) next (first_of _ _ s))
find_none (c ∷ cs) (suc i) at b a s =
    let first = b 0 c (omega arith) in
    rw (cmp_more at c.at first) (find_none cs i at (later c cs i at b) (λ d l. a d (omega arith)) (second_of _ _ s))

pub sorted_new : (old new : List Cell) (at to : ℕ) → T (is_sorted nat_cmp (pairs old))
    → put nat_cmp at to (pairs old) ≡ pairs new → T (is_sorted nat_cmp (pairs new))
sorted_new old new at to s e =
    subst (λ ps. T (is_sorted nat_cmp ps)) e (is_sorted-put nat_cmp nat_cmp_total at to (pairs old) s)

pub map_new : (old new : List Cell) (at to : ℕ) (m : FinMap nat_cmp ℕ) → from_sorted (pairs old) ≡ m
    → T (is_sorted nat_cmp (pairs old)) → put nat_cmp at to (pairs old) ≡ pairs new
    → from_sorted (pairs new) ≡ insert_key m at to
map_new old new at to m v s e =
    same_entries_map _ _ (entries-from_sorted nat_cmp (pairs new) (sorted_new old new at to s e) ∙ sym e
    ∙ ap (put nat_cmp at to) (sym (entries-from_sorted nat_cmp (pairs old) s) ∙ ap entries v)
    ∙ sym (entries-insert nat_cmp_total m at to))

abbrev NotNull : Cell → Type 0
NotNull c = c.at ≢ 0

pub put_here : (cs : List Cell) (at to i : ℕ) → IsHere cs at i
    → put nat_cmp at to (pairs cs) ≡ pairs (set cs i (cell at to))
put_here cs at to i h = put_over cs i at to (cell at to) h.below h.within (h.here (cell at to))

pub put_gap : (cs : List Cell) (at to i : ℕ) → IsGap cs at i
    → put nat_cmp at to (pairs cs) ≡ pairs (insert cs i (cell at to))
put_gap cs at to i h = put_new cs i at to h.below h.above h.within

pub cells_here : (cs : List Cell) (at to i : ℕ) → at ≢ 0 → AreCells cs → IsHere cs at i
    → AreCells (set cs i (cell at to))
cells_here cs at to i n a h = record {
  ascending = sorted_new cs (set cs i (cell at to)) at to a.ascending (put_here cs at to i h);
  not_null = All-set NotNull cs i (cell at to) n a.not_null;
}

one : (c : Cell) → NotNull c → All NotNull (c ∷ [])
one c h zero d l = h
one c h (suc k) d l = absurd (omega arith)

pub cells_gap : (cs : List Cell) (at to i : ℕ) → at ≢ 0 → AreCells cs → IsGap cs at i
    → AreCells (insert cs i (cell at to))
cells_gap cs at to i n a h = record {
  ascending = sorted_new cs (insert cs i (cell at to)) at to a.ascending (put_gap cs at to i h);
  not_null = All-append NotNull (take i cs) (cell at to ∷ drop i cs) (All-take NotNull i cs a.not_null)
      (All-append NotNull (cell at to ∷ []) (drop i cs) (one (cell at to) n) (All-drop NotNull i cs a.not_null));
}

pub get_here : (cs : List Cell) (at i : ℕ) (m : FinMap nat_cmp ℕ) (d : Cell) → from_sorted (pairs cs) ≡ m → AreCells cs
    → IsHere cs at i → get m at ≡ Some (get_or cs i d).to
get_here cs at i m d v a h =
    ap (λ n. get n at) (sym v) ∙ get-from_sorted nat_cmp (pairs cs) at a.ascending
    ∙ find_here cs i at d h.below h.within (h.here d)

pub get_gap : (cs : List Cell) (at i : ℕ) (m : FinMap nat_cmp ℕ) → from_sorted (pairs cs) ≡ m → AreCells cs
    → IsGap cs at i → get m at ≡ None
get_gap cs at i m v a h =
    ap (λ n. get n at) (sym v) ∙ get-from_sorted nat_cmp (pairs cs) at a.ascending
    ∙ find_none cs i at h.below h.above a.ascending

pub map_here : (cs : List Cell) (at to i : ℕ) (m : FinMap nat_cmp ℕ) → from_sorted (pairs cs) ≡ m → AreCells cs
    → IsHere cs at i → from_sorted (pairs (set cs i (cell at to))) ≡ insert_key m at to
map_here cs at to i m v a h = map_new cs (set cs i (cell at to)) at to m v a.ascending (put_here cs at to i h)

pub map_gap : (cs : List Cell) (at to i : ℕ) (m : FinMap nat_cmp ℕ) → from_sorted (pairs cs) ≡ m → AreCells cs
    → IsGap cs at i → from_sorted (pairs (insert cs i (cell at to))) ≡ insert_key m at to
map_gap cs at to i m v a h = map_new cs (insert cs i (cell at to)) at to m v a.ascending (put_gap cs at to i h)

pub below_each : (at : ℕ) (cs : List Cell) → T (below_all nat_cmp at (pairs cs)) → (j : ℕ) (d : Cell) → j < length cs
    → at < (get_or cs j d).at
below_each at [] b j d l = absurd (omega (arith, l))
below_each at (c ∷ cs) b zero d l = lt_of at c.at (less_of _ (first_of _ _ b))
below_each at (c ∷ cs) b (suc j) d l = below_each at cs (second_of _ _ b) j d (omega (arith, l))

-- an earlier cell lies below a later one
pub rises : (cs : List Cell) → T (is_sorted nat_cmp (pairs cs)) → (i j : ℕ) (d : Cell) → i < j → j < length cs
    → (get_or cs i d).at < (get_or cs j d).at
rises [] s i j d l w = absurd (omega (arith, w))
rises (c ∷ cs) s i zero d l w = absurd (omega (arith, l))
rises (c ∷ cs) s zero (suc j) d l w = below_each c.at cs (first_of _ _ s) j d (omega (arith, w))
rises (c ∷ cs) s (suc i) (suc j) d l w = rises cs (second_of _ _ s) i j d (omega (arith, l)) (omega (arith, w))

compared_same : (a b : ℕ) → nat_cmp a b ≡ Equal → a ≡ b
compared_same a b e = grind (arith, nat_tests)

compared_more : (a b : ℕ) → nat_cmp a b ≡ Greater → b < a
compared_more a b e = grind (arith, nat_tests)

index_rises : (a b at : ℕ) → a ≤ b → ordering_index (nat_cmp a at) ≤ ordering_index (nat_cmp b at)
index_rises a b at le = grind (arith, nat_tests)

-- the same place, or a later one
rises_or_same : (cs : List Cell) → T (is_sorted nat_cmp (pairs cs)) → (i j : ℕ) (d : Cell) → i ≤ j → j < length cs
    → (get_or cs i d).at ≤ (get_or cs j d).at
rises_or_same cs s i j d l w = elim (cases_lt i j) [
  | inl before ↦ omega (arith, rises cs s i j d before w)
  | inr after ↦ let same : i ≡ j = omega (arith, l, after) in
      subst (λ k. (get_or cs i d).at ≤ (get_or cs k d).at) same (omega arith)
]

-- what a binary search for a place answers
pub searched : (cs : List Cell) (at : ℕ) (r : Result ℕ ℕ) → T (is_sorted nat_cmp (pairs cs))
    → IsSearchInRange r (length cs) → IsBinarySearchResult (λ c. nat_cmp c.at at) cs r
    → MatchResult r (IsHere cs at) (IsGap cs at)
searched cs at (Ok i) s w found = record {
  within = w;
  here = λ d. compared_same (get_or cs i d).at at (found d);
  below = λ k d l. omega (arith, rises cs s k i d l w, compared_same (get_or cs i d).at at (found d));
}
searched cs at (Err i) s w gap =
    let parts = gap (λ a b d l r. index_rises (get_or cs a d).at (get_or cs b d).at at
    (rises_or_same cs s a b d l r)) in
    record {
      within = w;
      above = λ d l. compared_more (get_or cs i d).at at (parts.1 i d (omega arith) l);
      below = λ k d l. lt_of (get_or cs k d).at at (parts.0 k d (omega arith) l);
    }

-- the cell of a place taken out
abbrev others : ℕ → ℕ → Bool
others at x = not (eq_by_cmp nat_cmp at x)

kept_above : (at : ℕ) (cs : List Cell) → T (below_all nat_cmp at (pairs cs))
    → where_key nat_cmp (others at) (pairs cs) ≡ pairs cs
kept_above at [] b = refl
kept_above at (c ∷ cs) b =
    let more : at < c.at = lt_of at c.at (less_of _ (first_of _ _ b)) in
    rw (cmp_less at c.at more) (ap (λ x. pair_of c ∷ x) (kept_above at cs (second_of _ _ b)))

pub taken_out : (cs : List Cell) (i at : ℕ) (d : Cell) → T (is_sorted nat_cmp (pairs cs)) → i < length cs
    → (get_or cs i d).at ≡ at → where_key nat_cmp (others at) (pairs cs) ≡ pairs (remove cs i)
taken_out [] i at d s w e = absurd (omega (arith, w))
taken_out (c ∷ cs) zero at d s w e =
    let same : nat_cmp at c.at ≡ Equal = cmp_same at c.at (sym e) in
    rw same (kept_above at cs (subst (λ x. T (below_all nat_cmp x (pairs cs))) e (first_of _ _ s)))
taken_out (c ∷ cs) (suc i) at d s w e =
    let later_at : c.at < (get_or cs i d).at = below_each c.at cs (first_of _ _ s) i d (omega (arith, w)) in
    let more : nat_cmp at c.at ≡ Greater = cmp_more at c.at (omega (arith, later_at, e)) in
    rw more (ap (λ x. pair_of c ∷ x) (taken_out cs i at d (second_of _ _ s) (omega (arith, w)) e))

pub sorted_taken : (cs : List Cell) (i at : ℕ) → AreCells cs → IsHere cs at i
    → T (is_sorted nat_cmp (pairs (remove cs i)))
sorted_taken cs i at a h =
    subst (λ ps. T (is_sorted nat_cmp ps)) (taken_out cs i at (cell at at) a.ascending h.within (h.here (cell at at)))
    (is_sorted-where_key nat_cmp (others at) (pairs cs) a.ascending)

pub cells_taken : (cs : List Cell) (i at : ℕ) → AreCells cs → IsHere cs at i → AreCells (remove cs i)
cells_taken cs i at a h =
    record {
      ascending = sorted_taken cs i at a h;
      not_null =
          All-append NotNull (take i cs) (drop (suc i) cs) (All-take NotNull i cs a.not_null)
          (All-drop NotNull (suc i) cs a.not_null);
    }

pub map_taken : (cs : List Cell) (i at : ℕ) (m : Heap) → heap_of cs ≡ m → AreCells cs → IsHere cs at i
    → heap_of (remove cs i) ≡ remove_key m at
map_taken cs i at m v a h = by_look_ups (heap_of (remove cs i)) (remove_key m at) (λ q.
    get-from_sorted nat_cmp (pairs (remove cs i)) q (sorted_taken cs i at a h)
    ∙ ap (find nat_cmp q) (sym (taken_out cs i at (cell at at) a.ascending h.within (h.here (cell at at))))
    ∙ find-where_key nat_cmp (others at) q (λ x e. ap (others at) (sym (nat_cmp-IsAntisymmetric q x e))) (pairs cs)
    ∙ turned q at (find nat_cmp q (pairs cs))
    ∙ ap (cond (eq_by_cmp nat_cmp q at) None)
    (sym (get-from_sorted nat_cmp (pairs cs) q a.ascending) ∙ ap (λ n. get n q) v)
    ∙ sym (get-remove nat_cmp_total m at q))
  where
    turned : (q at : ℕ) (o : Option ℕ) → cond (others at q) o None ≡ cond (eq_by_cmp nat_cmp q at) None o
    turned q at o = elim (cases_eq q at) [
      | inl same ↦ rw (cmp_same at q (sym same), cmp_same q at same) refl
      | inr away ↦ elim (cases_lt q at) [
        | inl less ↦ rw (cmp_more at q less, cmp_less q at less) refl
        | inr more ↦ let above : at < q = omega (arith, more, away) in
            rw (cmp_less at q above, cmp_more q at above) refl
      ]
    ]

pub map_untaken : (m : Heap) (at : ℕ) → get m at ≡ None → m ≡ remove_key m at
map_untaken m at none = by_look_ups m (remove_key m at) (λ q. elim (cases_eq q at) [
  | inl same ↦ subst (λ x. get m x ≡ get (remove_key m at) x) (sym same) (none ∙ sym (get_removed m at))
  | inr away ↦ sym (get_kept m at q away)
])

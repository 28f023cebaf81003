-- Marked cells, and the heap of the others.
use Rattle.std.specs.Prelude.{◌≡◌, ◌≢◌, ◌⊎◌, ℕ, zero, suc, ◌+◌, ◌<◌, List, [], ◌∷◌, ◌++◌, map, length, get_or, set}
use Rattle.std.specs.Prelude.{take, replicate, Option, Some, None, Bool, true, false, not, cond, ◌&&◌, ◌||◌, ◌==◌, T}
use Rattle.std.specs.Prelude.{is_some, All}
use Rattle.std.specs.Ordering.{nat_cmp, eq_by_cmp}
use Rattle.std.specs.FinMap.{get, find, keys, entries, remove, is_sorted, get-retain_keys, get-from_sorted}
use Rattle.std.specs.FinMap.{entries-from_sorted, nat_cmp-IsAntisymmetric}
use Rattle.std.specs.FinMap.Entries.{below_all}
use Rattle.std.proofs.lemmas.Bool.{cases_Bool, cases_eq}
use Rattle.std.proofs.lemmas.List.{get_or_default}
use Rattle.gh_ast.proofs.Sites.{element_at}
use Rattle.std.proofs.lemmas.Bool.Decides.{nat_tests}
use Rattle.std.proofs.Common.{refl, sym, ◌∙◌, ap, subst, inl, inr, arith, add-one}
use Rattle.gh_assert.specs.Heaps.{Heap, Splits, IsEmpty, or_else}
use Rattle.gh_assert.specs.Cells.{pairs, heap_of, is_marked, unmarked, AreCells, IsHere, IsGap}
use Rattle.gh_assert.specs.declared.heap.Cell.{Cell}
use Rattle.gh_assert.proofs.Unique.{tie, apart, get_removed, get_kept}
use Rattle.gh_assert.proofs.Cells.{by_look_ups}
use Rattle.gh_assert.proofs.CellLists.{below_each, rises, first_of, second_of, get_here, get_gap}

pub get_unmarked : (cs : List Cell) (ms : List Bool) (q : ℕ)
    → get (unmarked cs ms) q ≡ cond (not (is_marked cs ms q)) (get (heap_of cs) q) None
get_unmarked cs ms q =
    get-retain_keys (heap_of cs) (λ x. not (is_marked cs ms x)) q
    (λ x e. ap (λ y. not (is_marked cs ms y)) (sym (nat_cmp-IsAntisymmetric q x e)))

same_test : (a b : ℕ) → a ≡ b → (a == b) ≡ true
same_test a b e = grind (arith, nat_tests)

other_test : (a b : ℕ) → a ≢ b → (a == b) ≡ false
other_test a b n = grind (arith, nat_tests)

-- a place below all cells isn't marked
unmarked_below : (cs : List Cell) (ms : List Bool) (q : ℕ) → T (below_all nat_cmp q (pairs cs))
    → is_marked cs ms q ≡ false
unmarked_below [] ms q b = refl
unmarked_below (c ∷ cs) [] q b = refl
unmarked_below (c ∷ cs) (m ∷ ms) q b =
    let above : q < c.at = below_each q (c ∷ cs) b 0 c (omega arith) in
    let other : (q == c.at) ≡ false = other_test q c.at (λ e. omega (arith, above, e)) in
    let tail : is_marked cs ms q ≡ false = unmarked_below cs ms q (second_of _ _ b) in
    rw (other, tail) (never m)
  where
    never : (m : Bool) → (m && false) || false ≡ false
    never true = refl
    never false = refl

-- the cell at i is marked exactly where its mark says so
pub marked_at : (cs : List Cell) (ms : List Bool) (i : ℕ) (d : Cell) (f : Bool) → T (is_sorted nat_cmp (pairs cs))
    → length ms ≡ length cs → i < length cs → is_marked cs ms (get_or cs i d).at ≡ get_or ms i f
marked_at [] ms i d f s same w = absurd (omega (arith, w))
marked_at (c ∷ cs) [] i d f s same w = absurd (omega (arith, same))
marked_at (c ∷ cs) (m ∷ ms) zero d f s same w =
    rw (same_test c.at c.at refl, unmarked_below cs ms c.at (first_of _ _ s)) (as_it_is m)
  where
    as_it_is : (m : Bool) → (m && true) || false ≡ m
    as_it_is true = refl
    as_it_is false = refl
marked_at (c ∷ cs) (m ∷ ms) (suc i) d f s same w =
    let above : c.at < (get_or cs i d).at = below_each c.at cs (first_of _ _ s) i d (omega (arith, w)) in
    let other : ((get_or cs i d).at == c.at) ≡ false =
    other_test (get_or cs i d).at c.at (λ e. omega (arith, above, e)) in
    rw other (passed m (is_marked cs ms (get_or cs i d).at)
    ∙ marked_at cs ms i d f (second_of _ _ s) (omega (arith, same)) (omega (arith, w)))
  where
    passed : (m b : Bool) → (m && false) || b ≡ b
    passed true b = refl
    passed false b = refl

-- one mark more
pub marked_more : (cs : List Cell) (ms : List Bool) (i : ℕ) (d : Cell) (q : ℕ) → length ms ≡ length cs → i < length cs
    → is_marked cs (set ms i true) q ≡ ((q == (get_or cs i d).at) || is_marked cs ms q)
marked_more [] ms i d q same w = absurd (omega (arith, w))
marked_more (c ∷ cs) [] i d q same w = absurd (omega (arith, same))
marked_more (c ∷ cs) (m ∷ ms) zero d q same w = taken_in m (q == c.at) (is_marked cs ms q)
  where
    taken_in : (m t b : Bool) → (true && t) || b ≡ t || ((m && t) || b)
    taken_in true true b = refl
    taken_in true false b = refl
    taken_in false true b = refl
    taken_in false false b = refl
marked_more (c ∷ cs) (m ∷ ms) (suc i) d q same w =
    ap (λ b. (m && (q == c.at)) || b) (marked_more cs ms i d q (omega (arith, same)) (omega (arith, w)))
    ∙ turned (m && (q == c.at)) (q == (get_or cs i d).at) (is_marked cs ms q)
  where
    turned : (a b t : Bool) → a || (b || t) ≡ b || (a || t)
    turned true true t = refl
    turned true false t = refl
    turned false true t = refl
    turned false false t = refl

pub none_marked : (cs : List Cell) (n q : ℕ) → is_marked cs (replicate n false) q ≡ false
none_marked [] n q = refl
none_marked (c ∷ cs) zero q = refl
none_marked (c ∷ cs) (suc n) q = none_marked cs n q

pub all_unmarked : (cs : List Cell) (n : ℕ) → unmarked cs (replicate n false) ≡ heap_of cs
all_unmarked cs n =
    by_look_ups (unmarked cs (replicate n false)) (heap_of cs)
    (λ q. get_unmarked cs (replicate n false) q ∙ ap (λ b. cond (not b) (get (heap_of cs) q) None) (none_marked cs n q))

if_marked : (b : Bool) (o : Option ℕ) → b ≡ true → None ≡ cond (not b) o None
if_marked true o e = refl
if_marked false o e = absurd cc

if_unmarked : (b : Bool) (o : Option ℕ) → b ≡ false → o ≡ cond (not b) o None
if_unmarked true o e = absurd cc
if_unmarked false o e = refl

if_none : (b : Bool) (o : Option ℕ) → o ≡ None → None ≡ cond (not b) o None
if_none true o e = refl
if_none false o e = sym e

-- what a look-up finds in the rest, by the mark
pub left_here : (cs : List Cell) (ms : List Bool) (at i : ℕ) (d : Cell) (f : Bool) → AreCells cs → length ms ≡ length cs
    → IsHere cs at i → get_or ms i f ≡ false → Some (get_or cs i d).to ≡ get (unmarked cs ms) at
left_here cs ms at i d f a same h open' =
    let mark : is_marked cs ms at ≡ false =
    subst (λ q. is_marked cs ms q ≡ false) (h.here d) (marked_at cs ms i d f a.ascending same h.within ∙ open') in
    sym (get_here cs at i (heap_of cs) d refl a h) ∙ if_unmarked (is_marked cs ms at) (get (heap_of cs) at) mark
    ∙ sym (get_unmarked cs ms at)

pub taken_here : (cs : List Cell) (ms : List Bool) (at i : ℕ) (d : Cell) (f : Bool) → AreCells cs
    → length ms ≡ length cs → IsHere cs at i → get_or ms i f ≡ true → None ≡ get (unmarked cs ms) at
taken_here cs ms at i d f a same h taken =
    let mark : is_marked cs ms at ≡ true =
    subst (λ q. is_marked cs ms q ≡ true) (h.here d) (marked_at cs ms i d f a.ascending same h.within ∙ taken) in
    if_marked (is_marked cs ms at) (get (heap_of cs) at) mark ∙ sym (get_unmarked cs ms at)

pub left_gap : (cs : List Cell) (ms : List Bool) (at i : ℕ) → AreCells cs → IsGap cs at i
    → None ≡ get (unmarked cs ms) at
left_gap cs ms at i a h =
    if_none (is_marked cs ms at) (get (heap_of cs) at) (get_gap cs at i (heap_of cs) refl a h)
    ∙ sym (get_unmarked cs ms at)

-- a mark takes its cell out of the rest
pub marking_removes : (cs : List Cell) (ms : List Bool) (at i : ℕ) (d : Cell) → length ms ≡ length cs → IsHere cs at i
    → unmarked cs (set ms i true) ≡ remove (unmarked cs ms) at
marking_removes cs ms at i d same h =
    by_look_ups (unmarked cs (set ms i true)) (remove (unmarked cs ms) at) (λ q. elim (cases_eq q at) [
      | inl is ↦
          let mark : is_marked cs (set ms i true) q ≡ true =
          marked_more cs ms i d q same h.within
          ∙ ap (λ b. b || is_marked cs ms q) (same_test q (get_or cs i d).at (is ∙ sym (h.here d))) in
          get_unmarked cs (set ms i true) q ∙ sym (if_marked (is_marked cs (set ms i true) q) (get (heap_of cs) q) mark)
          ∙ sym (ap (get (remove (unmarked cs ms) at)) is ∙ get_removed (unmarked cs ms) at)
      | inr away ↦
          let mark : is_marked cs (set ms i true) q ≡ is_marked cs ms q =
          marked_more cs ms i d q same h.within
          ∙ ap (λ b. b || is_marked cs ms q) (other_test q (get_or cs i d).at (λ is. away (is ∙ h.here d))) in
          get_unmarked cs (set ms i true) q ∙ ap (λ b. cond (not b) (get (heap_of cs) q) None) mark
          ∙ sym (get_kept (unmarked cs ms) at q away ∙ get_unmarked cs ms q)
    ])

-- the marked cells, in order
abbrev pub marked_cells : List Cell → List Bool → List Cell
marked_cells [] ms = []
marked_cells (c ∷ cs) [] = []
marked_cells (c ∷ cs) (m ∷ ms) = cond m (c ∷ marked_cells cs ms) (marked_cells cs ms)

marked_turn : (cs : List Cell) (ms : List Bool) (i : ℕ) (d : Cell) (f : Bool) → length ms ≡ length cs → i < length cs
    → marked_cells (take (suc i) cs) (take (suc i) ms)
    ≡ marked_cells (take i cs) (take i ms) ++ cond (get_or ms i f) (get_or cs i d ∷ []) []
marked_turn [] ms i d f same w = absurd (omega (arith, w))
marked_turn (c ∷ cs) [] i d f same w = absurd (omega (arith, same))
marked_turn (c ∷ cs) (true ∷ ms) zero d f same w = refl
marked_turn (c ∷ cs) (false ∷ ms) zero d f same w = refl
marked_turn (c ∷ cs) (true ∷ ms) (suc i) d f same w =
    ap (λ x. c ∷ x) (marked_turn cs ms i d f (omega (arith, same)) (omega (arith, w)))
marked_turn (c ∷ cs) (false ∷ ms) (suc i) d f same w = marked_turn cs ms i d f (omega (arith, same)) (omega (arith, w))

pub marked_next : (cs : List Cell) (ms : List Bool) (i : ℕ) (d : Cell) (f : Bool) → length ms ≡ length cs
    → i < length cs
    → marked_cells (take (i + 1) cs) (take (i + 1) ms)
    ≡ marked_cells (take i cs) (take i ms) ++ cond (get_or ms i f) (get_or cs i d ∷ []) []
marked_next cs ms i d f same w = rw (add-one i) (marked_turn cs ms i d f same w)

both_of : (a b : Bool) → T a → T b → T (a && b)
both_of true b p q = q
both_of false b p q = p

below_marked : (x : ℕ) (cs : List Cell) (ms : List Bool) → T (below_all nat_cmp x (pairs cs))
    → T (below_all nat_cmp x (pairs (marked_cells cs ms)))
below_marked x [] ms b = tt
below_marked x (c ∷ cs) [] b = tt
below_marked x (c ∷ cs) (true ∷ ms) b = both_of _ _ (first_of _ _ b) (below_marked x cs ms (second_of _ _ b))
below_marked x (c ∷ cs) (false ∷ ms) b = below_marked x cs ms (second_of _ _ b)

pub sorted_marked : (cs : List Cell) (ms : List Bool) → T (is_sorted nat_cmp (pairs cs))
    → T (is_sorted nat_cmp (pairs (marked_cells cs ms)))
sorted_marked [] ms s = tt
sorted_marked (c ∷ cs) [] s = tt
sorted_marked (c ∷ cs) (true ∷ ms) s =
    both_of _ _ (below_marked c.at cs ms (first_of _ _ s)) (sorted_marked cs ms (second_of _ _ s))
sorted_marked (c ∷ cs) (false ∷ ms) s = sorted_marked cs ms (second_of _ _ s)

-- a look-up among the marked cells
pub find_marked : (cs : List Cell) (ms : List Bool) (q : ℕ) → T (is_sorted nat_cmp (pairs cs))
    → find nat_cmp q (pairs (marked_cells cs ms)) ≡ cond (is_marked cs ms q) (find nat_cmp q (pairs cs)) None
find_marked [] ms q s = refl
find_marked (c ∷ cs) [] q s = refl
find_marked (c ∷ cs) (m ∷ ms) q s = elim (cases_eq q c.at) [
  | inl is ↦
      let none : is_marked cs ms q ≡ false = ap (is_marked cs ms) is ∙ unmarked_below cs ms c.at (first_of _ _ s) in
      let rest : find nat_cmp q (pairs (marked_cells cs ms)) ≡ None =
      find_marked cs ms q (second_of _ _ s) ∙ ap (λ b. cond b (find nat_cmp q (pairs cs)) None) none in
      at_first m (tie q c.at is) (same_test q c.at is) none rest
  | inr away ↦ at_others m (apart q c.at away) (other_test q c.at away) (find_marked cs ms q (second_of _ _ s))
]
  where
    at_first : (m : Bool) → eq_by_cmp nat_cmp q c.at ≡ true → (q == c.at) ≡ true → is_marked cs ms q ≡ false
        → find nat_cmp q (pairs (marked_cells cs ms)) ≡ None
        → find nat_cmp q (pairs (marked_cells (c ∷ cs) (m ∷ ms)))
        ≡ cond (is_marked (c ∷ cs) (m ∷ ms) q) (find nat_cmp q (pairs (c ∷ cs))) None
    at_first true t e none rest = rw (t, e) refl
    at_first false t e none rest = rw (none, rest) refl

    at_others : (m : Bool) → eq_by_cmp nat_cmp q c.at ≡ false → (q == c.at) ≡ false
        → find nat_cmp q (pairs (marked_cells cs ms)) ≡ cond (is_marked cs ms q) (find nat_cmp q (pairs cs)) None
        → find nat_cmp q (pairs (marked_cells (c ∷ cs) (m ∷ ms)))
        ≡ cond (is_marked (c ∷ cs) (m ∷ ms) q) (find nat_cmp q (pairs (c ∷ cs))) None
    at_others true t e rest = rw (t, e) rest
    at_others false t e rest = rw t rest

-- of a heap that falls into a part and the unmarked cells, the part has the marked ones
part_at : (b : Bool) (h a r : Option ℕ) → r ≡ cond (not b) h None → (a ≡ None) ⊎ (r ≡ None) → h ≡ or_else a r
    → a ≡ cond b h None
part_at true h None r e apart join = sym (join ∙ e)
part_at true h (Some v) r e apart join = sym join
part_at false h None r e apart join = refl
part_at false h (Some v) r e apart join = elim apart [ inl none ↦ none | inr none ↦ absurd cc ]

pub places_marked : (cs : List Cell) (ms : List Bool) (a : Heap) → T (is_sorted nat_cmp (pairs cs))
    → Splits (heap_of cs) a (unmarked cs ms) → map (λ c. c.at) (marked_cells cs ms) ≡ keys a
places_marked cs ms a s split =
    let same : heap_of (marked_cells cs ms) ≡ a = by_look_ups (heap_of (marked_cells cs ms)) a (λ q.
    get-from_sorted nat_cmp (pairs (marked_cells cs ms)) q (sorted_marked cs ms s) ∙ find_marked cs ms q s
    ∙ ap (λ o. cond (is_marked cs ms q) o None) (sym (get-from_sorted nat_cmp (pairs cs) q s))
    ∙ sym (part_at (is_marked cs ms q) (get (heap_of cs) q) (get a q) (get (unmarked cs ms) q) (get_unmarked cs ms q)
    (split.disjoint q) (split.union q))) in
    places_of (marked_cells cs ms)
    ∙ ap (map (λ (e : ℕ × ℕ). e.0))
    (sym (entries-from_sorted nat_cmp (pairs (marked_cells cs ms)) (sorted_marked cs ms s)) ∙ ap entries same)
  where
    places_of : (cs : List Cell) → map (λ c. c.at) cs ≡ map (λ (e : ℕ × ℕ). e.0) (pairs cs)
    places_of [] = refl
    places_of (c ∷ cs) = ap (λ x. c.at ∷ x) (places_of cs)

-- where all are marked, each cell is
all_marked : (cs : List Cell) (ms : List Bool) (q : ℕ) → length ms ≡ length cs → All (λ m. m ≡ true) ms
    → is_marked cs ms q ≡ is_some (find nat_cmp q (pairs cs))
all_marked [] ms q same all = refl
all_marked (c ∷ cs) [] q same all = absurd (omega (arith, same))
all_marked (c ∷ cs) (m ∷ ms) q same all =
    let here : m ≡ true = all 0 m (omega arith) in
    elim (cases_eq q c.at) [
      | inl is ↦ rw (here, tie q c.at is, same_test q c.at is) refl
      | inr away ↦ rw (here, apart q c.at away, other_test q c.at away)
          (all_marked cs ms q (omega (arith, same)) (λ k d l. all (suc k) d (omega (arith, l))))
    ]

none_if_some : (o : Option ℕ) → cond (not (is_some o)) o None ≡ None
none_if_some None = refl
none_if_some (Some v) = refl

pub rest_empty : (cs : List Cell) (ms : List Bool) → AreCells cs → length ms ≡ length cs → All (λ m. m ≡ true) ms
    → IsEmpty (unmarked cs ms)
rest_empty cs ms a same all q =
    get_unmarked cs ms q ∙ ap (λ b. cond (not b) (get (heap_of cs) q) None)
    (all_marked cs ms q same all ∙ ap is_some (sym (get-from_sorted nat_cmp (pairs cs) q a.ascending)))
    ∙ none_if_some (get (heap_of cs) q)

here_at : (cs : List Cell) (i : ℕ) (d : Cell) → AreCells cs → i < length cs → IsHere cs (get_or cs i d).at i
here_at cs i d a w = record {
  within = w;
  here = λ e. ap (λ (c : Cell). c.at) (get_or_default cs i e d w);
  below =
      λ k e l. subst (λ x. (get_or cs k e).at < x) (ap (λ (c : Cell). c.at) (get_or_default cs i e d w))
      (rises cs a.ascending k i e l w);
}

pub empty_marks : (cs : List Cell) (ms : List Bool) → AreCells cs → length ms ≡ length cs → IsEmpty (unmarked cs ms)
    → All (λ m. m ≡ true) ms
empty_marks cs ms a same none i f w =
    let inside : i < length cs = omega (arith, w, same) in
    mark (element_at cs i inside) (cases_Bool (get_or ms i f))
  where
    mark : (d : Cell) × (get_or cs i d ≡ d) → (get_or ms i f ≡ true) ⊎ (get_or ms i f ≡ false) → get_or ms i f ≡ true
    mark (d, is) (inl taken) = taken
    mark (d, is) (inr left) =
        let inside : i < length cs = omega (arith, w, same) in
        let some : Some (get_or cs i d).to ≡ get (unmarked cs ms) (get_or cs i d).at =
        left_here cs ms (get_or cs i d).at i d f a same (here_at cs i d a inside) left in
        let gone : get (unmarked cs ms) (get_or cs i d).at ≡ None = none (get_or cs i d).at in
        absurd cc

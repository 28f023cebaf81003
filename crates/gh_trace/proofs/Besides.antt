-- What a heap has beside a frame, cell by cell.
use Rattle.std.specs.Prelude.{◌≡◌, ◌≢◌, ◌⊎◌, ℕ, ◌+◌, ◌<◌, List, [], ◌∷◌, length, get_or, drop, Option, Some, None, cond}
use Rattle.std.specs.Prelude.{T}
use Rattle.std.specs.Ordering.{nat_cmp}
use Rattle.std.specs.FinMap.{get, insert, remove, find, entries, is_sorted, get-entries}
use Rattle.std.proofs.lemmas.Bool.{cases_eq}
use Rattle.std.proofs.Common.{refl, sym, ◌∙◌, ap, subst, inl, inr, arith}
use Rattle.gh_assert.specs.declared.heap.Cell.{Cell}
use Rattle.gh_assert.specs.Cells.{pairs, AreCells}
use Rattle.gh_assert.specs.Heaps.{Heap, IsEmpty, Splits, or_else}
use Rattle.gh_assert.proofs.CellLists.{below_each, first_of, second_of, find_none}
use Rattle.gh_assert.proofs.Cells.{no_cells, get_nothing, get_put, get_beside}
use Rattle.gh_assert.proofs.Unique.{tie, apart, get_removed, get_kept}
use Rattle.gh_trace.proofs.Lefts.{drop-cons_at}

-- a place: its cell that is still ahead, what the heap has there, what is kept beside the frame, what is left of the
-- frame, and what
-- the frame had
abbrev BesideAt : Option ℕ → Option ℕ → Option ℕ → Option ℕ → Option ℕ → Type 0
BesideAt (Some v) h o f g = (h ≡ Some v) × (o ≡ None) × (f ≡ g)
BesideAt None None o f g = (o ≡ None) × (f ≡ g)
BesideAt None (Some v) o f g = (f ≡ None) × (((g ≡ Some v) × (o ≡ None)) ⊎ ((g ≡ None) × (o ≡ Some v)))

-- the cells that are ahead, what is kept beside the frame, and what is left of the frame
pub record BesideSoFar (heap frame : Heap) (cells : List Cell) (other now : Heap) : Type 0 where
  pub ascending : T (is_sorted nat_cmp (pairs cells))
  pub at : (q : ℕ) → BesideAt (find nat_cmp q (pairs cells)) (get heap q) (get other q) (get now q) (get frame q)

ahead : (h o f : Option ℕ) → o ≡ None → BesideAt h h o f f
ahead None o f e = (e, refl)
ahead (Some v) o f e = (refl, e, refl)

pub beside_begins : (heap frame other now : Heap) (cells : List Cell) → pairs cells ≡ entries heap → AreCells cells
    → other ≡ no_cells → now ≡ frame → BesideSoFar heap frame cells other now
beside_begins heap frame other now cells is kept none same = record {
  ascending = kept.ascending;
  at = λ q.
      subst (λ k. BesideAt (find nat_cmp q (pairs cells)) (get heap q) (get other q) (get k q) (get frame q)) (sym same)
      (subst (λ l. BesideAt l (get heap q) (get other q) (get frame q) (get frame q))
      (get-entries heap q ∙ ap (find nat_cmp q) (sym is))
      (ahead (get heap q) (get other q) (get frame q) (ap (λ k. get k q) none ∙ get_nothing q)));
}

moved : (l l' h o o' f f' g : Option ℕ) → l ≡ l' → o ≡ o' → f ≡ f' → BesideAt l h o f g → BesideAt l' h o' f' g
moved l l' h o o' f f' g p q r at =
    subst (λ m. BesideAt m h o' f' g) p (subst (λ m. BesideAt l h m f' g) q (subst (λ m. BesideAt l h o m g) r at))

in_frame : (l h o f g : Option ℕ) (v : ℕ) → l ≡ None → h ≡ Some v → o ≡ None → f ≡ None → g ≡ Some v
    → BesideAt l h o f g
in_frame (Some w) h o f g v a b c d e = absurd cc
in_frame None None o f g v a b c d e = absurd cc
in_frame None (Some w) o f g v a b c d e = let there : g ≡ Some w = e ∙ sym b in (d, inl (there, c))

in_other : (l h o f g : Option ℕ) (v : ℕ) → l ≡ None → h ≡ Some v → o ≡ Some v → f ≡ None → g ≡ None
    → BesideAt l h o f g
in_other (Some w) h o f g v a b c d e = absurd cc
in_other None None o f g v a b c d e = absurd cc
in_other None (Some w) o f g v a b c d e = let there : o ≡ Some w = c ∙ sym b in (d, inr (e, there))

-- the first cell that is ahead
first_ahead : (heap frame : Heap) (c : Cell) (cells : List Cell) (other now : Heap)
    → BesideSoFar heap frame (c ∷ cells) other now
    → (get heap c.at ≡ Some c.to) × (get other c.at ≡ None) × (get now c.at ≡ get frame c.at)
first_ahead heap frame c cells other now so =
    subst (λ l. BesideAt l (get heap c.at) (get other c.at) (get now c.at) (get frame c.at))
    (ap (λ t. cond t (Some c.to) (find nat_cmp c.at (pairs cells))) (tie c.at c.at refl)) (so.at c.at)

passed : (c : Cell) (cells : List Cell) → T (is_sorted nat_cmp (pairs (c ∷ cells)))
    → find nat_cmp c.at (pairs cells) ≡ None
passed c cells s =
    find_none cells 0 c.at (λ k d l. absurd (omega (arith, l))) (λ d l. below_each c.at cells (first_of _ _ s) 0 d l)
    (second_of _ _ s)

later : (c : Cell) (cells : List Cell) (q : ℕ) → q ≢ c.at
    → find nat_cmp q (pairs (c ∷ cells)) ≡ find nat_cmp q (pairs cells)
later c cells q away = ap (λ t. cond t (Some c.to) (find nat_cmp q (pairs cells))) (apart q c.at away)

-- a cell of the frame
beside_framed : (heap frame : Heap) (c : Cell) (cells : List Cell) (other now : Heap)
    → BesideSoFar heap frame (c ∷ cells) other now → get now c.at ≡ Some c.to
    → BesideSoFar heap frame cells other (remove now c.at)
beside_framed heap frame c cells other now so there = record {
  ascending = second_of _ _ so.ascending;
  at = λ q. elim (cases_eq q c.at) [
    | inl here ↦
        let e = first_ahead heap frame c cells other now so in
        subst (λ r. BesideAt (find nat_cmp r (pairs cells)) (get heap r) (get other r) (get (remove now c.at) r)
        (get frame r)) (sym here)
        (in_frame (find nat_cmp c.at (pairs cells)) (get heap c.at) (get other c.at) (get (remove now c.at) c.at)
        (get frame c.at) c.to (passed c cells so.ascending) e.0 e.1 (get_removed now c.at) (sym e.2 ∙ there))
    | inr away ↦ moved _ _ (get heap q) _ _ _ _ (get frame q) (later c cells q away) refl
        (sym (get_kept now c.at q away)) (so.at q)
  ];
}

-- a cell beside it
beside_other : (heap frame : Heap) (c : Cell) (cells : List Cell) (other now : Heap)
    → BesideSoFar heap frame (c ∷ cells) other now → get now c.at ≡ None
    → BesideSoFar heap frame cells (insert other c.at c.to) (remove now c.at)
beside_other heap frame c cells other now so none = record {
  ascending = second_of _ _ so.ascending;
  at = λ q. elim (cases_eq q c.at) [
    | inl here ↦
        let e = first_ahead heap frame c cells other now so in
        subst (λ r. BesideAt (find nat_cmp r (pairs cells)) (get heap r) (get (insert other c.at c.to) r)
        (get (remove now c.at) r) (get frame r)) (sym here)
        (in_other (find nat_cmp c.at (pairs cells)) (get heap c.at) (get (insert other c.at c.to) c.at)
        (get (remove now c.at) c.at) (get frame c.at) c.to (passed c cells so.ascending) e.0
        (get_put other c.at c.to)
        (get_removed now c.at) (sym e.2 ∙ none))
    | inr away ↦ moved _ _ (get heap q) _ _ _ _ (get frame q) (later c cells q away)
        (sym (get_beside other c.at c.to q away)) (sym (get_kept now c.at q away)) (so.at q)
  ];
}

one_content : (o a b : Option ℕ) (v w : ℕ) → (a ≡ None) ⊎ (b ≡ None) → o ≡ or_else a b → o ≡ Some v → b ≡ Some w → w ≡ v
one_content o None b v w d u e f = cc
one_content o (Some x) b v w d u e f = elim d [ inl none ↦ absurd cc | inr none ↦ absurd cc ]

-- a cell of the frame that has another content in the heap
beside_differs : (heap frame : Heap) (c : Cell) (cells : List Cell) (other now : Heap) (to : ℕ)
    → BesideSoFar heap frame (c ∷ cells) other now → get now c.at ≡ Some to → to ≢ c.to → (x : Heap)
    → Splits heap x frame → ⊥
beside_differs heap frame c cells other now to so there differ x split =
    let e = first_ahead heap frame c cells other now so in
    differ (one_content (get heap c.at) (get x c.at) (get frame c.at) c.to to (split.disjoint c.at) (split.union c.at)
    e.0 (sym e.2 ∙ there))

apart_at : (h o f g : Option ℕ) → BesideAt None h o f g → f ≡ None → (o ≡ None) ⊎ (g ≡ None)
apart_at None o f g at none = inl at.0
apart_at (Some v) o f g at none = elim at.1 [ inl both ↦ inl both.1 | inr both ↦ inr both.0 ]

joined_at : (h o f g : Option ℕ) → BesideAt None h o f g → f ≡ None → h ≡ or_else o g
joined_at None o f g at none = let a : o ≡ None = at.0 in let b : g ≡ None = sym at.1 ∙ none in rw (a, b) refl
joined_at (Some v) o f g at none = elim at.1 [
  | inl both ↦ let a : o ≡ None = both.1 in let b : g ≡ Some v = both.0 in rw (a, b) refl
  | inr both ↦ let a : o ≡ Some v = both.1 in rw a refl
]

-- at the end, where nothing is left of the frame
pub beside_ends : (heap frame other now : Heap) → BesideSoFar heap frame [] other now → IsEmpty now
    → Splits heap other frame
beside_ends heap frame other now so none = record {
  disjoint = λ q. apart_at (get heap q) (get other q) (get now q) (get frame q) (so.at q) (none q);
  union = λ q. joined_at (get heap q) (get other q) (get now q) (get frame q) (so.at q) (none q);
}

gone_at : (h o f g a : Option ℕ) → BesideAt None h o f g → h ≡ or_else a g → f ≡ None
gone_at None o f g None at e = at.1 ∙ sym e
gone_at None o f g (Some w) at e = absurd cc
gone_at (Some v) o f g a at e = at.0

-- where the frame is a part of the heap, nothing is left of it at the end
pub beside_gone : (heap frame other now : Heap) → BesideSoFar heap frame [] other now → (x : Heap) → Splits heap x frame
    → IsEmpty now
beside_gone heap frame other now so x split q =
    gone_at (get heap q) (get other q) (get now q) (get frame q) (get x q) (so.at q) (split.union q)

-- turns by the number of the cell
cell_of : (heap frame : Heap) (cells : List Cell) (i : ℕ) (d : Cell) (other now : Heap) → i < length cells
    → BesideSoFar heap frame (drop i cells) other now
    → BesideSoFar heap frame (get_or cells i d ∷ drop (i + 1) cells) other now
cell_of heap frame cells i d other now within so =
    subst (λ cs. BesideSoFar heap frame cs other now) (drop-cons_at cells i d within) so

pub framed_turn : (heap frame : Heap) (cells : List Cell) (i : ℕ) (d : Cell) (other now now' : Heap) (o : Option ℕ)
    (to : ℕ) → i < length cells → BesideSoFar heap frame (drop i cells) other now
    → o ≡ get now (get_or cells i d).at → o ≡ Some to → to ≡ (get_or cells i d).to
    → now' ≡ remove now (get_or cells i d).at → BesideSoFar heap frame (drop (i + 1) cells) other now'
framed_turn heap frame cells i d other now now' o to within so is some same left =
    subst (λ k. BesideSoFar heap frame (drop (i + 1) cells) other k) (sym left)
    (beside_framed heap frame (get_or cells i d) (drop (i + 1) cells) other now
    (cell_of heap frame cells i d other now within so) (sym is ∙ some ∙ ap Some same))

pub other_turn : (heap frame : Heap) (cells : List Cell) (i : ℕ) (d : Cell) (other other' now now' : Heap)
    (o : Option ℕ) → i < length cells → BesideSoFar heap frame (drop i cells) other now
    → o ≡ get now (get_or cells i d).at → o ≡ None → other' ≡ insert other (get_or cells i d).at (get_or cells i d).to
    → now' ≡ remove now (get_or cells i d).at → BesideSoFar heap frame (drop (i + 1) cells) other' now'
other_turn heap frame cells i d other other' now now' o within so is none put left =
    subst (λ k. BesideSoFar heap frame (drop (i + 1) cells) k now') (sym put)
    (subst (λ k. BesideSoFar heap frame (drop (i + 1) cells)
    (insert other (get_or cells i d).at (get_or cells i d).to) k) (sym left)
    (beside_other heap frame (get_or cells i d) (drop (i + 1) cells) other now
    (cell_of heap frame cells i d other now within so) (sym is ∙ none)))

pub differing_turn : (heap frame : Heap) (cells : List Cell) (i : ℕ) (d : Cell) (other now : Heap) (o : Option ℕ)
    (to : ℕ) → i < length cells → BesideSoFar heap frame (drop i cells) other now
    → o ≡ get now (get_or cells i d).at → o ≡ Some to → to ≢ (get_or cells i d).to → (x : Heap) → Splits heap x frame
    → ⊥
differing_turn heap frame cells i d other now o to within so is some differ x split =
    beside_differs heap frame (get_or cells i d) (drop (i + 1) cells) other now to
    (cell_of heap frame cells i d other now within so) (sym is ∙ some) differ x split

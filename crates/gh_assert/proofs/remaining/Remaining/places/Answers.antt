use Rattle.std.proofs.Common.{◌≡◌, ◌∙◌, ◌++◌, ◌∷◌, [], List, ℕ, ◌+◌, ◌<◌, Bool, cond, refl, get_or, sym, ap, subst}
use Rattle.std.proofs.Common.{length, map, take, arith, true, false}
use Rattle.std.proofs.lemmas.List.{map-append, take_all, append-nil, get_or_default}
use Rattle.gh_assert.specs.Heaps.{Heap, Splits}
use Rattle.gh_assert.specs.Cells.{heap_of, unmarked}
use Rattle.gh_assert.specs.declared.heap.Cell.{Cell}
use Rattle.gh_assert.proofs.Marks.{marked_cells, marked_next, places_marked}
use Rattle.gh_assert.proofs.remaining.Remaining.places.Goals as goal
use Rattle.gh_assert.proofs.remaining.Remaining.places.Goals.{then-index+in_ok-push, else-index}

abbrev blank : Cell
blank = record { at = 0; to = 0 }

-- the places of the marked cells, with one cell more
turn : (cells : List Cell) (marks : List Bool) (i : ℕ) (d : Cell) → length marks ≡ length cells → i < length cells
    → (more : List ℕ) → map (λ c. c.at) (cond (get_or marks i false) (get_or cells i d ∷ []) []) ≡ more
    → map (λ c. c.at) (marked_cells (take (i + 1) cells) (take (i + 1) marks))
    ≡ map (λ c. c.at) (marked_cells (take i cells) (take i marks)) ++ more
turn cells marks i d same within more is =
    ap (map (λ c. c.at)) (marked_next cells marks i d false same within)
    ∙ map-append (λ c. c.at) (marked_cells (take i cells) (take i marks))
    (cond (get_or marks i false) (get_or cells i d ∷ []) [])
    ∙ ap (λ x. map (λ c. c.at) (marked_cells (take i cells) (take i marks)) ++ x) is

-- what a turn adds, by the mark
added : (m : Bool) (c : Cell) (b : Bool) → m ≡ b → map (λ c. c.at) (cond m (c ∷ []) []) ≡ cond b (c.at ∷ []) []
added true c true e = refl
added true c false e = absurd cc
added false c true e = absurd cc
added false c false e = refl

pub loop-i-preserved : goal.loop-i-preserved
loop-i-preserved c =
    let cells = c.self.inside.cells.now in
    let marks = c.self.inside.taken.items in
    let mark : get_or marks c.loop-i.i false ≡ c.index.result.now =
    get_or_default marks c.loop-i.i false c.index.result.now (omega (arith, c.loop-i-test.true, c.self.invariant.1))
    ∙ sym c.index.ensures in
    elim c.if-index.branch [
      | then-index+in_ok-push w ↦
          ap (λ v. v.items) w.places-is ∙ w.in_ok-push.ensures.items
          ∙ ap (λ x. x ++ (get_or cells c.loop-i.i blank).at ∷ []) c.loop-i.invariant
          ∙ sym (turn cells marks c.loop-i.i blank c.self.invariant.1 c.loop-i-test.true
          ((get_or cells c.loop-i.i blank).at ∷ [])
          (added (get_or marks c.loop-i.i false) (get_or cells c.loop-i.i blank) true (mark ∙ w.if-index.true)))
      | else-index w ↦
          ap (λ v. v.items) w.places-is ∙ c.loop-i.invariant
          ∙ sym (append-nil (map (λ c. c.at) (marked_cells (take c.loop-i.i cells) (take c.loop-i.i marks))))
          ∙ sym (turn cells marks c.loop-i.i blank c.self.invariant.1 c.loop-i-test.true []
          (added (get_or marks c.loop-i.i false) (get_or cells c.loop-i.i blank) false (mark ∙ w.if-index.false)))
    ]

pub returns : goal.returns
returns c a split =
    let cells = c.self.inside.cells.now in
    let marks = c.self.inside.taken.items in
    let all : take c.loop-i.i cells ≡ cells = take_all c.loop-i.i cells c.loop-i-test.false in
    let all' : take c.loop-i.i marks ≡ marks =
    take_all c.loop-i.i marks (omega (arith, c.loop-i-test.false, c.self.invariant.1)) in
    let apart : Splits (heap_of cells) a (unmarked cells marks) =
    subst (λ (p : Heap × Heap). Splits p.0 a p.1) (sym c.self.view_is) split in
    c.loop-i.invariant ∙ ap (λ cs. map (λ c. c.at) (marked_cells cs (take c.loop-i.i marks))) all
    ∙ ap (λ ms. map (λ c. c.at) (marked_cells cells ms)) all'
    ∙ places_marked cells marks a c.self.invariant.0.ascending apart

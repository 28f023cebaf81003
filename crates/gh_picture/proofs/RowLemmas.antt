-- The groups of a row, by what its parts are.
use Rattle.std.specs.Prelude.{◌≡◌, ℕ, List, [], ◌∷◌, ◌++◌, map}
use Rattle.std.specs.FinMap.{entries}
use Rattle.std.proofs.Common.{refl, ◌∙◌, ap}
use Rattle.gh_assert.specs.Cells.{pairs}
use Rattle.gh_assert.specs.Heaps.{Heap}
use Rattle.gh_assert.specs.declared.heap.Cell.{Cell}
use Rattle.gh_assert.specs.declared.store.Entry.{Entry}
use Rattle.gh_picture.specs.Rows.{cells_of, cell_groups, variable_groups, row_groups}
use Rattle.gh_picture.specs.Shapes.{caption_group}
use Rattle.gh_picture.specs.declared.layout.Spot.{Spot}
use Rattle.gh_picture.specs.declared.scene.Change.{Change}
use Rattle.gh_picture.specs.declared.scene.Role.{Role}
use Rattle.gh_picture.specs.declared.scene.Row.{Row}
use Rattle.gh_picture.specs.declared.tree.Group.{Group}

abbrev cell_of : ℕ × ℕ → Cell
cell_of p = record { at = p.0; to = p.1 }

there_and_back : (cs : List Cell) → cs ≡ map cell_of (pairs cs)
there_and_back [] = refl
there_and_back (c ∷ cs) = ap (λ (ds : List Cell). c ∷ ds) (there_and_back cs)

pub same_cells : (cs : List Cell) (h : Heap) → pairs cs ≡ entries h → cs ≡ cells_of h
same_cells cs h e = there_and_back cs ∙ ap (λ ps. map cell_of ps) e

-- a caption, cells and variables that are added one after the other
pub added : (g0 g1 g2 g3 cells variables : List Group) (caption : Group)
    → g0 ≡ [] → g1 ≡ g0 ++ caption ∷ [] → g2 ≡ g1 ++ cells → g3 ≡ g2 ++ variables → g3 ≡ caption ∷ (cells ++ variables)
added g0 g1 g2 g3 cells variables caption e0 e1 e2 e3 =
    e3 ∙ ap (λ (g : List Group). g ++ variables)
    (e2 ∙ ap (λ (g : List Group). g ++ cells) (e1 ∙ ap (λ (g : List Group). g ++ caption ∷ []) e0))

-- the groups of what a row has are those of the row
pub of_row : (row : Row) (spots : List Spot) (cs : List Cell) (es : List Entry) (roles : List Role)
    (changes : List Change)
    → cs ≡ cells_of row.state.heap → es ≡ row.state.store → roles ≡ row.roles.items → changes ≡ row.changes.items
    → caption_group row.statement row.note
    ∷ (cell_groups roles cs spots 0 cs ++ variable_groups changes cs spots es 0 es) ≡ row_groups row spots
of_row row spots cs es roles changes cells store named changed =
    let caption = caption_group row.statement row.note in
    ap (λ (ds : List Cell). caption ∷ (cell_groups roles ds spots 0 ds ++ variable_groups changes ds spots es 0 es))
    cells ∙
    ap (λ (fs : List Entry). caption
    ∷ (cell_groups roles (cells_of row.state.heap) spots 0 (cells_of row.state.heap)
    ++ variable_groups changes (cells_of row.state.heap) spots fs 0 fs)) store ∙
    ap
    (λ (rs : List Role).
    caption ∷ (cell_groups rs (cells_of row.state.heap) spots 0 (cells_of row.state.heap)
    ++ variable_groups changes (cells_of row.state.heap) spots row.state.store 0 row.state.store))
    named ∙
    ap
    (λ (ms : List Change).
    caption ∷
    (cell_groups row.roles.items (cells_of row.state.heap) spots 0 (cells_of row.state.heap)
    ++ variable_groups ms (cells_of row.state.heap) spots row.state.store 0 row.state.store))
    changed

pub captions : (a b c d : List ℕ) (g : Group) → g ≡ caption_group a b → a ≡ c → b ≡ d → g ≡ caption_group c d
captions a b c d g e p q = e ∙ ap (λ (z : List ℕ). caption_group z b) p ∙ ap (λ (z : List ℕ). caption_group c z) q

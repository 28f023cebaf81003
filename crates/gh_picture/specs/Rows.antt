-- The panel of a row: its statement, a group for each cell and a group for each variable.
use Rattle.std.specs.Prelude.{◌≡◌, ℕ, suc, ◌+◌, ◌-◌, ◌/◌, ◌^◌, ◌<◌, ◌≤◌, ◌==◌, min, max, length, if◌then◌else◌, List}
use Rattle.std.specs.Prelude.{[], ◌∷◌, ◌++◌, codes, map, take, Option, Some, None, is_none, slice_index_or}
use Rattle.std.specs.List.{count_by}
use Rattle.std.specs.Fmt.{decimal}
use Rattle.std.specs.FinMap.{entries}
use Rattle.gh_assert.specs.Heaps.{Heap}
use Rattle.gh_assert.specs.declared.heap.Cell.{Cell}
use Rattle.gh_assert.specs.declared.store.Entry.{Entry}
use Rattle.gh_picture.specs.Shapes.{attribute, cell_group, variable_group, caption_group}
use Rattle.gh_picture.specs.Spots.{number_in, cell_at, spot_at, order_of, AreSpots, AreInOrder}
use Rattle.gh_picture.specs.declared.layout.Spot.{Spot}
use Rattle.gh_picture.specs.declared.scene.Change.{Change}
use Rattle.gh_picture.specs.declared.scene.Change.TheVariants as change
use Rattle.gh_picture.specs.declared.scene.Role.{Role}
use Rattle.gh_picture.specs.declared.scene.Role.TheVariants as role
use Rattle.gh_picture.specs.declared.scene.Row.{Row}
use Rattle.gh_picture.specs.declared.shapes.Link.{Link}
use Rattle.gh_picture.specs.declared.shapes.Link.TheVariants as link
use Rattle.gh_picture.specs.declared.shapes.Target.{Target}
use Rattle.gh_picture.specs.declared.shapes.Target.TheVariants as target
use Rattle.gh_picture.specs.declared.tree.Attribute.{Attribute}
use Rattle.gh_picture.specs.declared.tree.Group.{Group}
use Rattle.gh_picture.specs.declared.tree.Key.TheVariants as key
use Rattle.gh_picture.specs.declared.tree.Panel.{Panel}

-- the cells of a heap, the places ascending
abbrev pub cells_of : Heap → List Cell
cells_of h = map (λ p. record { at = p.0; to = p.1 }) (entries h)

-- how the arrow from one spot to another goes
abbrev pub link_between : Spot → Spot → Link
link_between s t =
    if s.line == t.line then (if s.column + 1 == t.column then link.Beside else link.Back t) else link.Jump t

abbrev pub link_to : List Spot → Spot → Option ℕ → Link
link_to spots s None = link.Lost
link_to spots s (Some j) = link_between s (spot_at spots j)

-- where the content of the cell of a number leads
abbrev pub link_of : List Cell → List Spot → ℕ → Link
link_of cells spots i = let to = (cell_at cells i).to in
    if to == 0 then link.Null else link_to spots (spot_at spots i) (number_in cells to)

abbrev pub role_at : List Role → ℕ → Role
role_at roles i = slice_index_or roles i role.Owned

abbrev pub change_at : List Change → ℕ → Change
change_at changes i = slice_index_or changes i change.Same

-- a group for each cell, numbered from k
abbrev pub cell_groups : List Role → List Cell → List Spot → ℕ → List Cell → List Group
cell_groups roles cells spots k [] = []
cell_groups roles cells spots k (c ∷ cs) =
    cell_group c (role_at roles k) (spot_at spots k) (link_of cells spots k) ∷ cell_groups roles cells spots (suc k) cs

-- how many variables have the value
abbrev pub equal_count : List Entry → ℕ → ℕ
equal_count es value = count_by (λ e. e.value == value) es

-- how many variables point to no cell
abbrev pub apart_count : List Cell → List Entry → ℕ
apart_count cells es = count_by (λ e. is_none (number_in cells e.value)) es

abbrev pub target_to : List Cell → List Spot → List Entry → ℕ → Option ℕ → Target
target_to cells spots seen value None = target.Apart (apart_count cells seen)
target_to cells spots seen value (Some j) = target.Above (spot_at spots j) (equal_count seen value)

-- where the name of a variable with this value stands, after those of the variables that are seen
abbrev pub target_of : List Cell → List Spot → List Entry → ℕ → Target
target_of cells spots seen value = target_to cells spots seen value (number_in cells value)

-- a group for each variable of es, numbered from k
abbrev pub variable_groups : List Change → List Cell → List Spot → List Entry → ℕ → List Entry → List Group
variable_groups changes cells spots es k [] = []
variable_groups changes cells spots es k (f ∷ fs) =
    variable_group f (change_at changes k) (target_of cells spots (take k es) f.value)
    ∷ variable_groups changes cells spots es (suc k) fs

-- a group for each variable of a store
abbrev pub store_groups : List Change → List Cell → List Spot → List Entry → List Group
store_groups changes cells spots es = variable_groups changes cells spots es 0 es

-- the groups of a row whose cells stand at the spots
abbrev pub row_groups : Row → List Spot → List Group
row_groups row spots =
    let cells = cells_of row.state.heap in
    caption_group row.statement row.note ∷
    (cell_groups row.roles.items cells spots 0 cells
    ++ variable_groups row.changes.items cells spots row.state.store 0 row.state.store)

-- the attributes of a panel that stands below so many lines
abbrev pub row_attributes : ℕ → List Attribute
row_attributes top =
    attribute key.Class (codes "row") ∷ attribute key.Transform (codes "translate(10 " ++ decimal top ++ codes "50)")
    ∷ []

-- n, or the greatest 64-bit number where n is greater
abbrev pub cut : ℕ → ℕ
cut n = min (2 ^ 64 - 1) n

-- a line that is past those of a row that begins below so many lines
pub record IsPast (top : ℕ) (spots : List Spot) (below : ℕ) : Type 0 where
  pub caption : cut (top + 1) ≤ below
  pub cells : (i : ℕ) → i < length spots → cut (top + (spot_at spots i).line + 1) ≤ below

-- how many columns a text takes
abbrev pub text_columns : List ℕ → ℕ
text_columns text = length text / 10 + 1

-- how many columns cells take with their arrows, and n at least
abbrev pub columns_from : ℕ → List Spot → ℕ
columns_from n [] = n
columns_from n (s ∷ ss) = columns_from (max n (cut (s.column + 2))) ss

abbrev pub cell_columns : List Spot → ℕ
cell_columns spots = columns_from 2 spots

-- how many columns a row takes: those of its cells, of its texts, or one for each variable, whatever is most
abbrev pub row_columns : Row → List Spot → ℕ
row_columns row spots =
    max (max (cell_columns spots) (max (text_columns row.statement) (text_columns row.note))) (length row.state.store)

-- the panel shows the row, from one line to another and in so many columns: its caption, each cell of its heap once,
-- and each variable of its store once, in their orders
pub record IsPanelOf (row : Row) (top below columns : ℕ) (panel : Panel) : Type 0 where
  pub spots : List Spot
  pub stand : AreSpots (cells_of row.state.heap) spots
  pub order : AreInOrder (order_of (cells_of row.state.heap) row.state.store) spots
  pub past : IsPast top spots below
  pub columns_are : columns ≡ row_columns row spots
  pub attributes : panel.attributes ≡ row_attributes top
  pub groups : panel.groups ≡ row_groups row spots

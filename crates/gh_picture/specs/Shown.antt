-- What stands in the groups of a panel, read off their elements.
use Rattle.std.specs.Prelude.{◌≡◌, ℕ, Bool, true, false, ◌||◌, if◌then◌else◌, List, [], ◌∷◌, codes, map, is_none}
use Rattle.std.specs.List.{flat_map}
use Rattle.std.specs.Fmt.{decimal}
use Rattle.std.specs.FinMap.{entries}
use Rattle.std.specs.Str.{bytes_eq}
use Rattle.gh_assert.specs.declared.heap.Cell.{Cell}
use Rattle.gh_assert.specs.declared.store.Entry.{Entry}
use Rattle.gh_picture.specs.Rows.{cells_of, IsPanelOf}
use Rattle.gh_picture.specs.Shapes.{apart_text}
use Rattle.gh_picture.specs.Spots.{number_in}
use Rattle.gh_picture.specs.declared.scene.Row.{Row}
use Rattle.gh_picture.specs.declared.tree.Attribute.{Attribute}
use Rattle.gh_picture.specs.declared.tree.Group.{Group}
use Rattle.gh_picture.specs.declared.tree.Key.{Key}
use Rattle.gh_picture.specs.declared.tree.Key.TheVariants as key
use Rattle.gh_picture.specs.declared.tree.Leaf.{Leaf}
use Rattle.gh_picture.specs.declared.tree.Panel.{Panel}

abbrev pub is_class : Key → Bool
is_class key.Class = true
is_class _ = false

-- the class of an element
abbrev pub class_of : List Attribute → List ℕ
class_of [] = []
class_of (a ∷ more) = if is_class a.key then a.value else class_of more

-- the text of a leaf whose class is asked for
abbrev pub text_in : (List ℕ → Bool) → Leaf → List (List ℕ)
text_in asks l = if asks (class_of l.attributes) then l.text ∷ [] else []

-- the texts of such leaves, in their order
abbrev pub texts_in : (List ℕ → Bool) → List Group → List (List ℕ)
texts_in asks groups = flat_map (λ g. flat_map (text_in asks) g.leaves) groups

abbrev pub is_place : List ℕ → Bool
is_place class = bytes_eq class (codes "place")

abbrev pub is_name : List ℕ → Bool
is_name class = bytes_eq class (codes "name") || bytes_eq class (codes "apart")

-- a name, with its value where no cell is at that place
abbrev pub name_text : List Cell → Entry → List ℕ
name_text cells e = if is_none (number_in cells e.value) then apart_text e else e.name

-- each cell of the heap and each variable of the store stands in the groups once, in order
pub record ShowsEach (row : Row) (groups : List Group) : Type 0 where
  pub places : texts_in is_place groups ≡ map (λ c. decimal c.0) (entries row.state.heap)
  pub names : texts_in is_name groups ≡ map (name_text (cells_of row.state.heap)) row.state.store

-- the panel of a row shows each cell and each variable once
abbrev pub PanelsShowEach : Type 0
PanelsShowEach =
    (row : Row) (top below columns : ℕ) (panel : Panel) → IsPanelOf row top below columns panel
    → ShowsEach row panel.groups

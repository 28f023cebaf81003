-- How cells, variables and statements are drawn.
use Rattle.std.specs.Prelude.{ℕ, List, [], ◌∷◌, ◌++◌, codes, ◌==◌, ◌||◌, nat_lt, if◌then◌else◌}
use Rattle.std.specs.Fmt.{decimal}
use Rattle.gh_assert.specs.declared.heap.Cell.{Cell}
use Rattle.gh_assert.specs.declared.store.Entry.{Entry}
use Rattle.gh_picture.specs.declared.layout.Spot.{Spot}
use Rattle.gh_picture.specs.declared.scene.Role.{Role}
use Rattle.gh_picture.specs.declared.scene.Role.TheVariants as role
use Rattle.gh_picture.specs.declared.scene.Change.{Change}
use Rattle.gh_picture.specs.declared.scene.Change.TheVariants as change
use Rattle.gh_picture.specs.declared.shapes.Link.{Link}
use Rattle.gh_picture.specs.declared.shapes.Link.TheVariants as link
use Rattle.gh_picture.specs.declared.shapes.Target.{Target}
use Rattle.gh_picture.specs.declared.shapes.Target.TheVariants as target
use Rattle.gh_picture.specs.declared.tree.Attribute.{Attribute}
use Rattle.gh_picture.specs.declared.tree.Group.{Group}
use Rattle.gh_picture.specs.declared.tree.Key.{Key}
use Rattle.gh_picture.specs.declared.tree.Key.TheVariants as key
use Rattle.gh_picture.specs.declared.tree.Leaf.{Leaf}
use Rattle.gh_picture.specs.declared.tree.Tag.{Tag}
use Rattle.gh_picture.specs.declared.tree.Tag.TheVariants as tag

abbrev pub role_word : Role → List ℕ
role_word role.Owned = codes "owned"
role_word role.Framed = codes "framed"
role_word role.Changed = codes "changed"
role_word role.Leaked = codes "leaked"

abbrev pub change_word : Change → List ℕ
change_word change.Same = codes "same"
change_word change.Changed = codes "changed"

-- a point in the box of a spot: a column is 100 wide and a line 100 high
abbrev pub point_text : Spot → List ℕ → List ℕ → List ℕ
point_text s across down = decimal s.column ++ across ++ codes " " ++ decimal s.line ++ down

abbrev pub place_text : Spot → List ℕ → List ℕ → List ℕ
place_text s across down = codes "translate(" ++ point_text s across down ++ codes ")"

abbrev pub attribute : Key → List ℕ → Attribute
attribute k value = record { key = k; value = value }

abbrev pub leaf_of : Tag → List ℕ → Key → List ℕ → List ℕ → Leaf
leaf_of t class k value words =
    record { tag = t; attributes = attribute key.Class class ∷ attribute k value ∷ []; text = words }

abbrev pub group_of : List ℕ → List Leaf → Group
group_of class leaves = record { tag = tag.G; attributes = attribute key.Class class ∷ []; leaves = leaves }

-- a text at a point in the box of a spot
abbrev pub label_of : List ℕ → Spot → List ℕ → List ℕ → List ℕ → Leaf
label_of class s across down words = leaf_of tag.Text class key.Transform (place_text s across down) words

abbrev pub path_of : List ℕ → List ℕ → Leaf
path_of class outline = leaf_of tag.Path class key.D outline []

abbrev pub outline_of : Spot → Leaf
outline_of s = path_of (codes "box") (codes "M" ++ point_text s (codes "14") (codes "34") ++ codes "h56v32h-56z")

abbrev pub place_label_of : Spot → ℕ → Leaf
place_label_of s at = label_of (codes "place") s (codes "42") (codes "55") (decimal at)

abbrev pub role_label_of : Spot → Role → Leaf
role_label_of s r = label_of (codes "role") s (codes "44") (codes "78") (role_word r)

-- a stroke from the right of a box, which goes on as `rest` says
abbrev pub stroke_text : Spot → List ℕ → List ℕ
stroke_text s rest = codes "M" ++ point_text s (codes "70") (codes "50") ++ rest

-- from below a box to below another of the same line
abbrev pub back_text : Spot → Spot → List ℕ
back_text s t =
    codes "M" ++ point_text s (codes "63") (codes "66") ++ codes "C" ++ point_text s (codes "63") (codes "99")
    ++ codes " " ++ point_text t (codes "19") (codes "99") ++
    codes " " ++ point_text t (codes "19") (codes "71")

-- from the right of a box to below another of another line
abbrev pub jump_text : Spot → Spot → List ℕ
jump_text s t =
    codes "M" ++ point_text s (codes "70") (codes "50") ++ codes "C" ++ point_text s (codes "99") (codes "50")
    ++ codes " " ++ point_text t (codes "65") (codes "99") ++
    codes " " ++ point_text t (codes "65") (codes "71")

abbrev pub arrow_of : Spot → Link → Leaf
arrow_of s link.Null = path_of (codes "null") (stroke_text s (codes "h16v8m-8 0h16m-13 4h10m-7 4h4"))
arrow_of s link.Lost = path_of (codes "lost") (stroke_text s (codes "h16"))
arrow_of s link.Beside = path_of (codes "next") (stroke_text s (codes "h38"))
arrow_of s (link.Back t) = path_of (codes "next") (back_text s t)
arrow_of s (link.Jump t) = path_of (codes "next") (jump_text s t)

-- the content of a cell is told where it is neither null nor the place of a cell
abbrev pub content_text : Link → ℕ → List ℕ
content_text link.Null to = []
content_text link.Lost to = decimal to
content_text link.Beside to = []
content_text (link.Back t) to = []
content_text (link.Jump t) to = []

abbrev pub content_label_of : Spot → Link → ℕ → Leaf
content_label_of s l to = label_of (codes "end") s (codes "96") (codes "54") (content_text l to)

abbrev pub class_text : List ℕ → List ℕ → List ℕ
class_text kind mark = kind ++ codes " " ++ mark

-- a cell: its box with its place and its role, and the arrow to what it leads to
abbrev pub cell_group : Cell → Role → Spot → Link → Group
cell_group c r s l =
    group_of (class_text (codes "cell") (role_word r))
    (outline_of s ∷ place_label_of s c.at ∷ role_label_of s r ∷ arrow_of s l ∷ content_label_of s l c.to ∷ [])

-- names above one box stand one above the other, three in a column
abbrev pub across_of : ℕ → List ℕ
across_of level = if nat_lt level 3 then codes "42" else codes "92"

abbrev pub down_of : ℕ → List ℕ
down_of level =
    if (level == 0) || (level == 3) then codes "30" else
    (if (level == 1) || (level == 4) then codes "18" else codes "06")

-- `NAME = VALUE`
abbrev pub apart_text : Entry → List ℕ
apart_text e = e.name ++ (if e.value == 0 then codes " = null" else codes " = " ++ decimal e.value)

abbrev pub variable_label_of : Entry → Target → Leaf
variable_label_of e (target.Above s level) = label_of (codes "name") s (across_of level) (down_of level) e.name
variable_label_of e (target.Apart slot) =
    label_of (codes "apart") (record { line = 0; column = slot }) (codes "14") (codes "66") (apart_text e)

-- a variable: its name above the box to which it points, or with its value where it points to none
abbrev pub variable_group : Entry → Change → Target → Group
variable_group e c t = group_of (class_text (codes "variable") (change_word c)) (variable_label_of e t ∷ [])

-- what stands above a row
abbrev pub caption_group : List ℕ → List ℕ → Group
caption_group statement note =
    group_of (codes "caption")
    (path_of (codes "rule") (codes "M4 2h380")
    ∷ leaf_of tag.Text (codes "statement") key.Transform (codes "translate(14 20)") statement ∷
    leaf_of tag.Text (codes "note") key.Transform (codes "translate(14 38)") note ∷ [])

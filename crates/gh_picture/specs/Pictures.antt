-- The picture of a scene.
use Rattle.std.specs.Prelude.{◌≡◌, ℕ, ◌+◌, max, List, [], ◌∷◌, ◌++◌, codes}
use Rattle.std.specs.Fmt.{decimal}
use Rattle.gh_picture.specs.Elements.{IsElement}
use Rattle.gh_picture.specs.Looks.{style_group, marker_group}
use Rattle.gh_picture.specs.Rows.{cut, text_columns, IsPanelOf}
use Rattle.gh_picture.specs.Shapes.{attribute, group_of, leaf_of}
use Rattle.gh_picture.specs.Written.{svg_text}
use Rattle.gh_picture.specs.declared.scene.Row.{Row}
use Rattle.gh_picture.specs.declared.scene.Scene.{Scene}
use Rattle.gh_picture.specs.declared.tree.Attribute.{Attribute}
use Rattle.gh_picture.specs.declared.tree.Group.{Group}
use Rattle.gh_picture.specs.declared.tree.Key.TheVariants as key
use Rattle.gh_picture.specs.declared.tree.Panel.{Panel}
use Rattle.gh_picture.specs.declared.tree.Svg.{Svg}
use Rattle.gh_picture.specs.declared.tree.Tag.TheVariants as tag

-- a panel for each row, in their order, each below the one before; they take the lines from one number to another, and
-- the columns of the widest, or `least` where that is more
abbrev pub ArePanelsOf : ℕ → ℕ → List Row → List Panel → ℕ → ℕ → Type 0
ArePanelsOf top least [] panels below columns = (panels ≡ []) × (below ≡ top) × (columns ≡ least)
ArePanelsOf top least (row ∷ rows) panels below columns =
    (panel : Panel) × (rest : List Panel) × (next : ℕ) × (own : ℕ) × (panels ≡ panel ∷ rest)
    × IsPanelOf row top next own panel ×
    ArePanelsOf next (max least own) rows rest below columns

-- panels that show the rows are added
pub record AddsPanels (rows : List Row) (least : ℕ) (old new : List Panel) (below columns : ℕ) : Type 0 where
  pub rest : List Panel
  pub whole : new ≡ old ++ rest
  pub panels : ArePanelsOf 0 least rows rest below columns

-- n hundreds in decimal digits
abbrev pub hundreds_text : ℕ → List ℕ
hundreds_text n = decimal n ++ codes "00"

-- the attributes that give a picture the size of so many columns and lines
abbrev pub frame_of : ℕ → ℕ → List Attribute
frame_of columns lines =
    attribute key.Xmlns (codes "http://www.w3.org/2000/svg") ∷ attribute key.Width (hundreds_text columns)
    ∷ attribute key.Height (hundreds_text lines) ∷
    attribute key.ViewBox (codes "0 0 " ++ hundreds_text columns ++ codes " " ++ hundreds_text lines) ∷ []

abbrev pub title_group : List ℕ → Group
title_group title =
    group_of (codes "head") (leaf_of tag.Text (codes "title") key.Transform (codes "translate(14 30)") title ∷ [])

-- how things look, and then the title
abbrev pub IsHead : List ℕ → Panel → Type 0
IsHead title panel = panel.groups ≡ style_group ∷ marker_group ∷ title_group title ∷ []

-- a head, a panel for each row, and a frame that is as high as they are and as wide as the widest of them and the title
pub record IsTreeOf (scene : Scene) (svg : Svg) : Type 0 where
  pub head : Panel
  pub rest : List Panel
  pub panels : svg.panels ≡ head ∷ rest
  pub title : IsHead scene.title head
  pub columns : ℕ
  pub below : ℕ
  pub rows : ArePanelsOf 0 (text_columns scene.title) scene.rows.items rest below columns
  pub frame : svg.attributes ≡ frame_of columns (cut (below + 1))

-- the text is one well-formed element: a tree with the title and a panel for each row, as it is written
pub record IsPicture (scene : Scene) (text : List ℕ) : Type 0 where
  pub tree : Svg
  pub written : text ≡ svg_text tree
  pub of_scene : IsTreeOf scene tree
  pub well_formed : IsElement text

-- How things look: a style sheet by classes, and the head of an arrow.
use Rattle.std.specs.Prelude.{ℕ, List, [], ◌∷◌, ◌++◌, codes}
use Rattle.gh_picture.specs.Shapes.{attribute, leaf_of, group_of}
use Rattle.gh_picture.specs.declared.scene.Role.{Role}
use Rattle.gh_picture.specs.declared.scene.Role.TheVariants as role
use Rattle.gh_picture.specs.declared.tree.Group.{Group}
use Rattle.gh_picture.specs.declared.tree.Key.TheVariants as key
use Rattle.gh_picture.specs.declared.tree.Tag.TheVariants as tag

-- texts and strokes by their classes, before what tells of roles
abbrev pub common_look : List ℕ
common_look =
    codes "svg{background:#fff}text{font:12px monospace;fill:#222}path{fill:none;stroke:#222;stroke-width:1.3}"
    ++ codes ".rule{stroke:#ccc;stroke-width:1}.next,.lost{marker-end:url(#arrow)}.place,.name,.role{text-anchor:middle}"
    ++ codes ".title{font-size:15px;font-weight:bold}.statement{font-weight:bold}.note{fill:#555}"
    ++ codes ".name,.apart{fill:#124a91}.apart{font-size:11px}.role{font-size:9px}"

-- a cell of each role has a look of its own: plain and without the word; grey and dashed; heavy; or with a dotted box
abbrev pub role_look : Role → List ℕ
role_look role.Owned = codes ".owned .role{display:none}"
role_look role.Framed = codes ".framed path{stroke:#999;stroke-dasharray:4 3}.framed text{fill:#888}"
role_look role.Changed =
    codes ".changed path{stroke:#c1440e;stroke-width:2.6}.changed text{fill:#c1440e;font-weight:bold}"
role_look role.Leaked =
    codes ".leaked .box{stroke:#a3008c;stroke-width:2;stroke-dasharray:1 2;fill:#f6e3f4}"
    ++ codes ".leaked text{fill:#a3008c;font-weight:bold}"

-- a variable that has another value than before is underlined
abbrev pub variable_look : List ℕ
variable_look = codes ".variable.changed text{text-decoration:underline}"

abbrev pub style_text : List ℕ
style_text =
    common_look ++ role_look role.Owned ++ role_look role.Framed ++ role_look role.Changed ++ variable_look
    ++ role_look role.Leaked

abbrev pub style_group : Group
style_group = group_of (codes "style") (record { tag = tag.Style; attributes = []; text = style_text } ∷ [])

-- the head of an arrow
abbrev pub marker_group : Group
marker_group =
    record {
      tag = tag.Marker;
      attributes =
          attribute key.Id (codes "arrow") ∷ attribute key.RefX (codes "6") ∷ attribute key.RefY (codes "4") ∷
          attribute key.MarkerWidth (codes "8") ∷ attribute key.MarkerHeight (codes "8")
          ∷ attribute key.Orient (codes "auto") ∷ [];
      leaves = leaf_of tag.Path (codes "point") key.D (codes "M1 1L7 4L1 7") [] ∷ [];
    }

-- The text of a tree.
use Rattle.std.specs.Prelude.{ℕ, List, [], ◌∷◌, ◌++◌, codes, ◌==◌, ◌&&◌, nat_le, if◌then◌else◌}
use Rattle.std.specs.List.{flat_map}
use Rattle.gh_picture.specs.Words.{tag_word, key_word}
use Rattle.gh_picture.specs.declared.tree.Tag.{Tag}
use Rattle.gh_picture.specs.declared.tree.Tag.TheVariants as tag
use Rattle.gh_picture.specs.declared.tree.Attribute.{Attribute}
use Rattle.gh_picture.specs.declared.tree.Leaf.{Leaf}
use Rattle.gh_picture.specs.declared.tree.Group.{Group}
use Rattle.gh_picture.specs.declared.tree.Panel.{Panel}
use Rattle.gh_picture.specs.declared.tree.Svg.{Svg}

-- a character that cannot be printed is a question mark
abbrev pub printed : ℕ → List ℕ
printed c = if nat_le 32 c && nat_le c 126 then c ∷ [] else codes "?"

-- the characters of markup are written by their names
abbrev pub escape : ℕ → List ℕ
escape c =
    if c == 60 then codes "&lt;" else
    (if c == 62 then codes "&gt;" else
    (if c == 38 then codes "&amp;" else (if c == 34 then codes "&quot;" else printed c)))

abbrev pub escaped : List ℕ → List ℕ
escaped text = flat_map escape text

-- ` NAME="VALUE"`
abbrev pub attribute_text : Attribute → List ℕ
attribute_text a = codes " " ++ key_word a.key ++ codes "=\"" ++ escaped a.value ++ codes "\""

abbrev pub opened : Tag → List Attribute → List ℕ
opened t attributes = codes "<" ++ tag_word t ++ flat_map attribute_text attributes ++ codes ">"

abbrev pub closed : Tag → List ℕ
closed t = codes "</" ++ tag_word t ++ codes ">"

abbrev pub leaf_text : Leaf → List ℕ
leaf_text l = opened l.tag l.attributes ++ escaped l.text ++ closed l.tag

abbrev pub group_text : Group → List ℕ
group_text g = opened g.tag g.attributes ++ flat_map leaf_text g.leaves ++ closed g.tag

abbrev pub panel_text : Panel → List ℕ
panel_text p = opened tag.G p.attributes ++ flat_map group_text p.groups ++ closed tag.G

abbrev pub svg_text : Svg → List ℕ
svg_text s = opened tag.Svg s.attributes ++ flat_map panel_text s.panels ++ closed tag.Svg

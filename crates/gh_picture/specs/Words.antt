-- The names of elements and attributes as they are written.
use Rattle.std.specs.Prelude.{ℕ, List, codes}
use Rattle.gh_picture.specs.declared.tree.Tag.{Tag}
use Rattle.gh_picture.specs.declared.tree.Tag.TheVariants as tag
use Rattle.gh_picture.specs.declared.tree.Key.{Key}
use Rattle.gh_picture.specs.declared.tree.Key.TheVariants as key

abbrev pub tag_word : Tag → List ℕ
tag_word tag.Svg = codes "svg"
tag_word tag.G = codes "g"
tag_word tag.Marker = codes "marker"
tag_word tag.Path = codes "path"
tag_word tag.Style = codes "style"
tag_word tag.Text = codes "text"

abbrev pub key_word : Key → List ℕ
key_word key.Xmlns = codes "xmlns"
key_word key.Width = codes "width"
key_word key.Height = codes "height"
key_word key.ViewBox = codes "viewBox"
key_word key.Id = codes "id"
key_word key.Class = codes "class"
key_word key.Transform = codes "transform"
key_word key.D = codes "d"
key_word key.X = codes "x"
key_word key.Y = codes "y"
key_word key.RefX = codes "refX"
key_word key.RefY = codes "refY"
key_word key.MarkerWidth = codes "markerWidth"
key_word key.MarkerHeight = codes "markerHeight"
key_word key.Orient = codes "orient"

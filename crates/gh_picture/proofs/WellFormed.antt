-- The text of a tree is well formed.
use Rattle.std.specs.Prelude.{◌≡◌, ◌≢◌, ℕ, Bool, true, false, ◌==◌, ◌&&◌, nat_le, List, [], ◌∷◌, ◌++◌, codes}
use Rattle.std.specs.Prelude.{if◌then◌else◌}
use Rattle.std.specs.List.{flat_map}
use Rattle.std.proofs.Common.{refl, subst, arith}
use Rattle.std.proofs.lemmas.Bool.Decides.{nat_tests}
use Rattle.std.proofs.lemmas.List.{append_assoc}
use Rattle.gh_picture.specs.Words.{tag_word, key_word}
use Rattle.gh_picture.specs.Written.{escape, escaped, attribute_text, opened, closed, leaf_text, group_text, panel_text}
use Rattle.gh_picture.specs.Written.{svg_text, printed}
use Rattle.gh_picture.specs.Elements.{IsName, IsUnescaped, AreCharacters, no_characters, unescaped_first, less_first}
use Rattle.gh_picture.specs.Elements.{greater_first, and_first, quote_first, AreAttributes, no_attributes}
use Rattle.gh_picture.specs.Elements.{attribute_first, IsElement, element, IsInside, characters, element_first}
use Rattle.gh_picture.specs.declared.tree.Tag.{Tag}
use Rattle.gh_picture.specs.declared.tree.Tag.TheVariants as tag
use Rattle.gh_picture.specs.declared.tree.Key.{Key}
use Rattle.gh_picture.specs.declared.tree.Key.TheVariants as key
use Rattle.gh_picture.specs.declared.tree.Attribute.{Attribute}
use Rattle.gh_picture.specs.declared.tree.Leaf.{Leaf}
use Rattle.gh_picture.specs.declared.tree.Group.{Group}
use Rattle.gh_picture.specs.declared.tree.Panel.{Panel}
use Rattle.gh_picture.specs.declared.tree.Svg.{Svg}

question : IsUnescaped 63
question = record {
  low = omega arith;
  high = omega arith;
  no_less = λ e. omega (arith, e);
  no_greater = λ e. omega (arith, e);
  no_and = λ e. omega (arith, e);
  no_quote = λ e. omega (arith, e);
}

printed_first : (c : ℕ) (rest : List ℕ) → c ≢ 60 → c ≢ 62 → c ≢ 38 → c ≢ 34 → AreCharacters rest
    → AreCharacters (printed c ++ rest)
printed_first c rest l g a q more = by_test (nat_le 32 c && nat_le c 126) refl
  where
    by_test : (b : Bool) → (nat_le 32 c && nat_le c 126) ≡ b → AreCharacters ((if b then c ∷ [] else 63 ∷ []) ++ rest)
    by_test true e =
        unescaped_first (record {
          low = grind (arith, nat_tests);
          high = grind (arith, nat_tests);
          no_less = l;
          no_greater = g;
          no_and = a;
          no_quote = q;
        }) more
    by_test false e = unescaped_first question more

escape_first : (c : ℕ) (rest : List ℕ) → AreCharacters rest → AreCharacters (escape c ++ rest)
escape_first c rest more = less (c == 60) refl
  where
    quote : (b : Bool) → (c == 34) ≡ b → c ≢ 60 → c ≢ 62 → c ≢ 38
        → AreCharacters ((if b then codes "&quot;" else printed c) ++ rest)
    quote true e l g a = quote_first more
    quote false e l g a = printed_first c rest l g a (grind (arith, nat_tests)) more

    amp : (b : Bool) → (c == 38) ≡ b → c ≢ 60 → c ≢ 62
        → AreCharacters ((if b then codes "&amp;" else (if c == 34 then codes "&quot;" else printed c)) ++ rest)
    amp true e l g = and_first more
    amp false e l g = quote (c == 34) refl l g (grind (arith, nat_tests))

    greater : (b : Bool) → (c == 62) ≡ b → c ≢ 60
        → AreCharacters ((if b then codes "&gt;" else
        (if c == 38 then codes "&amp;" else (if c == 34 then codes "&quot;" else printed c))) ++ rest)
    greater true e l = greater_first more
    greater false e l = amp (c == 38) refl l (grind (arith, nat_tests))

    less : (b : Bool) → (c == 60) ≡ b
        → AreCharacters ((if b then codes "&lt;" else
        (if c == 62 then codes "&gt;" else
        (if c == 38 then codes "&amp;" else (if c == 34 then codes "&quot;" else printed c)))) ++ rest)
    less true e = less_first more
    less false e = greater (c == 62) refl (grind (arith, nat_tests))

escaped_characters : (t : List ℕ) → AreCharacters (escaped t)
escaped_characters [] = no_characters
escaped_characters (c ∷ cs) = escape_first c (escaped cs) (escaped_characters cs)

some_letter : (c : ℕ) (cs : List ℕ) → (c ∷ cs) ≢ []
some_letter c cs e = cc

tag_name : (t : Tag) → IsName (tag_word t)
tag_name tag.Svg = record { some = some_letter _ _; letters = refl }
tag_name tag.G = record { some = some_letter _ _; letters = refl }
tag_name tag.Marker = record { some = some_letter _ _; letters = refl }
tag_name tag.Path = record { some = some_letter _ _; letters = refl }
tag_name tag.Style = record { some = some_letter _ _; letters = refl }
tag_name tag.Text = record { some = some_letter _ _; letters = refl }

key_name : (k : Key) → IsName (key_word k)
key_name key.Xmlns = record { some = some_letter _ _; letters = refl }
key_name key.Width = record { some = some_letter _ _; letters = refl }
key_name key.Height = record { some = some_letter _ _; letters = refl }
key_name key.ViewBox = record { some = some_letter _ _; letters = refl }
key_name key.Id = record { some = some_letter _ _; letters = refl }
key_name key.Class = record { some = some_letter _ _; letters = refl }
key_name key.Transform = record { some = some_letter _ _; letters = refl }
key_name key.D = record { some = some_letter _ _; letters = refl }
key_name key.X = record { some = some_letter _ _; letters = refl }
key_name key.Y = record { some = some_letter _ _; letters = refl }
key_name key.RefX = record { some = some_letter _ _; letters = refl }
key_name key.RefY = record { some = some_letter _ _; letters = refl }
key_name key.MarkerWidth = record { some = some_letter _ _; letters = refl }
key_name key.MarkerHeight = record { some = some_letter _ _; letters = refl }
key_name key.Orient = record { some = some_letter _ _; letters = refl }

attributes_formed : (attributes : List Attribute) → AreAttributes (flat_map attribute_text attributes)
attributes_formed [] = no_attributes
attributes_formed (a ∷ more) = attribute_first (key_name a.key) (escaped_characters a.value) (attributes_formed more)

-- the close tag stands after the rest
regroup : (start inside name : List ℕ)
    → ((start ++ inside) ++ codes "</" ++ name) ++ codes ">" ≡ start ++ inside ++ (codes "</" ++ name ++ codes ">")
regroup start inside name = simp append_assoc

whole : (t : Tag) (attributes : List Attribute) (inside : List ℕ) → IsInside inside
    → IsElement (opened t attributes ++ inside ++ closed t)
whole t attributes inside is =
    subst IsElement (regroup (opened t attributes) inside (tag_word t))
    (element (tag_name t) (attributes_formed attributes) is)

leaf_element : (l : Leaf) → IsElement (leaf_text l)
leaf_element l = whole l.tag l.attributes (escaped l.text) (characters (escaped_characters l.text))

leaves_inside : (ls : List Leaf) → IsInside (flat_map leaf_text ls)
leaves_inside [] = characters no_characters
leaves_inside (l ∷ ls) = element_first (leaf_element l) (leaves_inside ls)

group_element : (g : Group) → IsElement (group_text g)
group_element g = whole g.tag g.attributes (flat_map leaf_text g.leaves) (leaves_inside g.leaves)

groups_inside : (gs : List Group) → IsInside (flat_map group_text gs)
groups_inside [] = characters no_characters
groups_inside (g ∷ gs) = element_first (group_element g) (groups_inside gs)

panel_element : (p : Panel) → IsElement (panel_text p)
panel_element p = whole tag.G p.attributes (flat_map group_text p.groups) (groups_inside p.groups)

panels_inside : (ps : List Panel) → IsInside (flat_map panel_text ps)
panels_inside [] = characters no_characters
panels_inside (p ∷ ps) = element_first (panel_element p) (panels_inside ps)

pub tree_element : (s : Svg) → IsElement (svg_text s)
tree_element s = whole tag.Svg s.attributes (flat_map panel_text s.panels) (panels_inside s.panels)

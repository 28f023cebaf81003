-- Well-formed texts: elements that are nested in one another.
use Rattle.std.specs.Prelude.{ℕ, Bool, ◌&&◌, ◌||◌, nat_le, IsTrue, ◌≤◌, ◌≢◌, List, [], ◌∷◌, ◌++◌, codes}
use Rattle.std.specs.List.{list_all}
use Rattle.gh_picture.specs.Written.{svg_text}
use Rattle.gh_picture.specs.declared.tree.Svg.{Svg}

abbrev pub is_letter : ℕ → Bool
is_letter c = (nat_le 65 c && nat_le c 90) || (nat_le 97 c && nat_le c 122)

-- one or more letters
pub record IsName (n : List ℕ) : Type 0 where
  pub some : n ≢ []
  pub letters : IsTrue (list_all is_letter n)

-- a printable character that is none of `<`, `>`, `&` and `"`, and so is written as it is
pub record IsUnescaped (c : ℕ) : Type 0 where
  pub low : 32 ≤ c
  pub high : c ≤ 126
  pub no_less : c ≢ 60
  pub no_greater : c ≢ 62
  pub no_and : c ≢ 38
  pub no_quote : c ≢ 34

-- characters as they are, and those of markup by their names
pub data AreCharacters : List ℕ → Type 0 where
  no_characters : AreCharacters []
  unescaped_first : {c : ℕ} {rest : List ℕ} → IsUnescaped c → AreCharacters rest → AreCharacters (c ∷ rest)
  less_first : {rest : List ℕ} → AreCharacters rest → AreCharacters (codes "&lt;" ++ rest)
  greater_first : {rest : List ℕ} → AreCharacters rest → AreCharacters (codes "&gt;" ++ rest)
  and_first : {rest : List ℕ} → AreCharacters rest → AreCharacters (codes "&amp;" ++ rest)
  quote_first : {rest : List ℕ} → AreCharacters rest → AreCharacters (codes "&quot;" ++ rest)

-- names with values in quotes
pub data AreAttributes : List ℕ → Type 0 where
  no_attributes : AreAttributes []
  attribute_first : {n value rest : List ℕ}
      → IsName n → AreCharacters value → AreAttributes rest
      → AreAttributes (codes " " ++ n ++ codes "=\"" ++ value ++ codes "\"" ++ rest)

-- an element is an open tag, what is inside, and the close tag of the same name; inside stand characters or elements
mutual
  pub data IsElement : List ℕ → Type 0 where
    element : {n attributes inside : List ℕ}
        → IsName n → AreAttributes attributes → IsInside inside
        → IsElement (codes "<" ++ n ++ attributes ++ codes ">" ++ inside ++ codes "</" ++ n ++ codes ">")

  pub data IsInside : List ℕ → Type 0 where
    characters : {text : List ℕ} → AreCharacters text → IsInside text
    element_first : {text rest : List ℕ} → IsElement text → IsInside rest → IsInside (text ++ rest)

-- the text of each tree is one element
abbrev pub TreesAreElements : Type 0
TreesAreElements = (s : Svg) → IsElement (svg_text s)

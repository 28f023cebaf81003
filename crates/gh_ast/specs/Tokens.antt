-- The characters of a text, its comments, and its tokens with their places.
use Rattle.std.specs.Prelude.{◌≡◌, ◌≢◌, ℕ, ◌+◌, ◌<◌, ◌≤◌, List, [], ◌∷◌, ◌++◌, length, take, fold, count_by, slice_get}
use Rattle.std.specs.Prelude.{Some, Bool, false, ◌||◌, ◌&&◌, ◌==◌, nat_le, IsTrue, cond, codes, All}
use Rattle.std.specs.List.{list_any}
use Rattle.gh_base.specs.Names.{is_name_byte}
use Rattle.gh_base.specs.declared.place.Span.{Span}
use Rattle.gh_ast.specs.declared.Occ.{Occ}
use Rattle.gh_ast.specs.declared.sign.Sign.{Sign}
use Rattle.gh_ast.specs.declared.sign.Sign.TheVariants.{BraceOpen, BraceClose, ParenOpen, ParenClose, Comma, Semicolon}
use Rattle.gh_ast.specs.declared.sign.Sign.TheVariants.{Colon, Dot, Assign, Equal, Unequal, Bang, And, Or, Star, Arrow}
use Rattle.gh_ast.specs.declared.sign.Keyword.{Keyword}
use Rattle.gh_ast.specs.declared.sign.Keyword.TheVariants as keyword

abbrev pub sign_text : Sign → List ℕ
sign_text BraceOpen = codes "{"
sign_text BraceClose = codes "}"
sign_text ParenOpen = codes "("
sign_text ParenClose = codes ")"
sign_text Comma = codes ","
sign_text Semicolon = codes ";"
sign_text Colon = codes ":"
sign_text Dot = codes "."
sign_text Assign = codes ":="
sign_text Equal = codes "=="
sign_text Unequal = codes "!="
sign_text Bang = codes "!"
sign_text And = codes "&&"
sign_text Or = codes "||"
sign_text Star = codes "&*&"
sign_text Arrow = codes "|->"

abbrev pub keyword_text : Keyword → List ℕ
keyword_text keyword.Struct = codes "struct"
keyword_text keyword.Node = codes "Node"
keyword_text keyword.Var = codes "var"
keyword_text keyword.Next = codes "next"
keyword_text keyword.Procedure = codes "procedure"
keyword_text keyword.Returns = codes "returns"
keyword_text keyword.Requires = codes "requires"
keyword_text keyword.Ensures = codes "ensures"
keyword_text keyword.Invariant = codes "invariant"
keyword_text keyword.If = codes "if"
keyword_text keyword.Else = codes "else"
keyword_text keyword.While = codes "while"
keyword_text keyword.Return = codes "return"
keyword_text keyword.New = codes "new"
keyword_text keyword.Free = codes "free"
keyword_text keyword.Null = codes "null"
keyword_text keyword.Emp = codes "emp"
keyword_text keyword.Acc = codes "acc"
keyword_text keyword.Lseg = codes "lseg"

-- space, tab, carriage return, line feed
abbrev pub is_blank : ℕ → Bool
is_blank b = (b == 32) || (b == 9) || (b == 13) || (b == 10)

-- a letter or `_`
abbrev pub begins_word : ℕ → Bool
begins_word b = (nat_le 97 b && nat_le b 122) || (nat_le 65 b && nat_le b 90) || (b == 95)

-- the characters of the grammar
abbrev pub is_character : ℕ → Bool
is_character b = is_blank b || is_name_byte b || list_any (λ c. c == b) (codes "{}(),;:.=!&*|->/")

-- the byte stands at the front
abbrev pub is_ahead : ℕ → List ℕ → Bool
is_ahead b [] = false
is_ahead b (c ∷ rest) = c == b

-- the text with spaces in the place of its comments: a comment begins with `//` and ends before the next line feed
abbrev mutual
  pub cleared : List ℕ → List ℕ
  cleared [] = []
  cleared (b ∷ rest) = cond ((b == 47) && is_ahead 47 rest) (32 ∷ wiped rest) (b ∷ cleared rest)

  -- the same of a text that begins inside a comment
  pub wiped : List ℕ → List ℕ
  wiped [] = []
  wiped (b ∷ rest) = cond (b == 10) (b ∷ cleared rest) (32 ∷ wiped rest)

-- the place after a byte
abbrev pub moved : Span → ℕ → Span
moved p b = cond (b == 10) (record { line = p.line + 1; col = 1 }) (record { line = p.line; col = p.col + 1 })

abbrev pub moved_over : Span → List ℕ → Span
moved_over = fold moved

abbrev pub first_place : Span
first_place = record { line = 1; col = 1 }

-- the place of the byte at an offset
abbrev pub place_of : List ℕ → ℕ → Span
place_of text k = moved_over first_place (take k text)

-- the byte at the offset is the first one outside comments that is no character of the grammar
pub record IsFirstByte (text : List ℕ) (offset : ℕ) : Type 0 where
  pub byte : ℕ
  pub here : slice_get (cleared text) offset ≡ Some byte
  pub strange : is_character byte ≡ false
  pub before : All (λ b. IsTrue (is_character b)) (take offset (cleared text))

abbrev pub opens : ℕ → Bool
opens b = (b == 40) || (b == 123)

abbrev pub closes : ℕ → Bool
closes b = (b == 41) || (b == 125)

-- outside its comments, the text before the offset has over 64 more opening than closing brackets
abbrev pub IsTooDeep : List ℕ → ℕ → Type 0
IsTooDeep text n = count_by closes (take n (cleared text)) + 64 < count_by opens (take n (cleared text))

-- the bracket at the offset is the first with which too many stand open
pub record IsFirstDeep (text : List ℕ) (offset : ℕ) : Type 0 where
  pub within : offset < length text
  pub deep : IsTooDeep text (offset + 1)
  pub before : (k : ℕ) → k ≤ offset → IsTooDeep text k → ⊥

-- a name, a reserved word or a sign, with its place
pub data Token : Type 0 where
  named : Occ → Token
  key : Keyword → Span → Token
  sign : Sign → Span → Token

-- a word: it begins with a letter or `_`, and has at most 64 letters, digits and `_`
pub record IsWord (w : List ℕ) : Type 0 where
  pub begins : (b : ℕ) × (rest : List ℕ) × (w ≡ b ∷ rest) × IsTrue (begins_word b)
  pub letters : All (λ b. IsTrue (is_name_byte b)) w
  pub short : length w ≤ 64

-- the word isn't reserved
abbrev pub IsFree : List ℕ → Type 0
IsFree w = (k : Keyword) → w ≢ keyword_text k

-- no letter, digit or `_` stands at the front
abbrev pub EndsWord : List ℕ → Type 0
EndsWord [] = Unit {0}
EndsWord (b ∷ rest) = is_name_byte b ≡ false

-- no sign that stands at the front of the text is longer
abbrev pub IsLongest : Sign → List ℕ → Type 0
IsLongest s text = (t : Sign) (more : List ℕ) → text ≡ sign_text t ++ more → length (sign_text t) ≤ length (sign_text s)

-- a text without comments is w and then the rest; w is one token, with its place, or it is a blank, which is none
pub data IsPiece (place : Span) (w rest : List ℕ) : List Token → Type 0 where
  a_blank : (b : ℕ) → w ≡ b ∷ [] → IsTrue (is_blank b) → IsPiece place w rest []
  a_name : IsWord w → EndsWord rest → IsFree w → IsPiece place w rest (named (record { name = w; span = place }) ∷ [])
  a_keyword : (k : Keyword) → w ≡ keyword_text k → EndsWord rest → IsPiece place w rest (key k place ∷ [])
  a_sign : (s : Sign) → w ≡ sign_text s → IsLongest s (w ++ rest) → IsPiece place w rest (sign s place ∷ [])

-- from a place on, the tokens at the front of a text without comments; then the place and the text after them
pub data IsTokens : Span → List ℕ → List Token → Span → List ℕ → Type 0 where
  nothing : {p : Span} {text : List ℕ} → IsTokens p text [] p text
  piece : {p end : Span} {text w rest last : List ℕ} {us ts all : List Token}
      → text ≡ w ++ rest → IsPiece p w rest us → IsTokens (moved_over p w) rest ts end last → all ≡ us ++ ts
      → IsTokens p text all end last

-- without its comments, the whole text falls into these tokens
abbrev pub HasTokens : List ℕ → List Token → Type 0
HasTokens text ts = (end : Span) × IsTokens first_place (cleared text) ts end []

-- no blank and no token stands at the front of a text without comments
abbrev pub IsStuck : List ℕ → Type 0
IsStuck text = (place : Span) (w rest : List ℕ) (ts : List Token) → text ≡ w ++ rest → IsPiece place w rest ts → ⊥

-- the place after the first tokens of the text, where no token fits though bytes are left
pub record IsStuckAt (text : List ℕ) (place : Span) : Type 0 where
  pub tokens : List Token
  pub rest : List ℕ
  pub before : IsTokens first_place (cleared text) tokens place rest
  pub left : rest ≢ []
  pub stuck : IsStuck rest

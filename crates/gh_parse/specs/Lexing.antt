-- What the lexer answers.
use Rattle.std.specs.Prelude.{◌≡◌, ℕ, ◌+◌, ◌<◌, List, [], ◌∷◌, ◌++◌, length, take, drop, Option, Some, None}
use Rattle.std.specs.Prelude.{MatchOption, Bool, IsTrue, ◌↔◌, codes}
use Rattle.gh_base.specs.declared.place.Span.{Span}
use Rattle.gh_ast.specs.declared.sign.Sign.{Sign}
use Rattle.gh_ast.specs.Tokens.{Token, sign_text, cleared, moved_over, first_place, IsPiece, IsLongest, IsTokens}
use Rattle.gh_ast.specs.Tokens.{IsStuck}
use Rattle.gh_parse.specs.Views.{symbol_at, symbol_text}
use Rattle.gh_parse.specs.declared.token.Symbol.{Symbol}
use Rattle.gh_parse.specs.declared.lexer.Piece.{Piece}

-- the text begins with w
abbrev pub BeginsWith : List ℕ → List ℕ → Type 0
BeginsWith w text = (rest : List ℕ) × (text ≡ w ++ rest)

-- the sign is in front and none longer is; or no sign is
abbrev pub IsSignFound : List ℕ → Option Sign → Type 0
IsSignFound text found =
    MatchOption found ((s : Sign) → BeginsWith (sign_text s) text → ⊥)
    (λ s. BeginsWith (sign_text s) text × IsLongest s text)

-- a comment begins
abbrev pub IsCommentAhead : List ℕ → Type 0
IsCommentAhead text = BeginsWith (codes "//") text

-- a line feed is in front, or nothing is left
abbrev pub EndsLine : List ℕ → Type 0
EndsLine [] = Unit {0}
EndsLine (b ∷ rest) = b ≡ 10

-- the token is in front
pub record IsSymbolAhead (text : List ℕ) (s : Symbol) : Type 0 where
  pub rest : List ℕ
  pub front : text ≡ symbol_text s ++ rest
  pub piece : (place : Span) → IsPiece place (symbol_text s) (cleared rest) (symbol_at s place ∷ [])

abbrev pub tokens_at : Option Symbol → Span → List Token
tokens_at None place = []
tokens_at (Some symbol) place = symbol_at symbol place ∷ []

-- the bytes of the piece are in front, and its token is that of the text without comments
pub record IsPieceAhead (text : List ℕ) (p : Piece) : Type 0 where
  pub some : 0 < p.length
  pub within : p.length < 1 + length text
  pub reads : (place : Span)
      → IsTokens place (cleared text) (tokens_at p.symbol place) (moved_over place (take p.length text))
      (cleared (drop p.length text))

-- the tokens at the front of a text, up to a place after which there are none; `whole` says whether the text ends there
pub record IsLexed (text : List ℕ) (tokens : List Token) (end : Span) (whole : Bool) : Type 0 where
  pub rest : List ℕ
  pub front : IsTokens first_place (cleared text) tokens end rest
  pub stuck : IsStuck rest
  pub all : IsTrue whole ↔ (rest ≡ [])

-- What holds of the tokens of every text.
use Rattle.std.specs.Prelude.{◌≡◌, ℕ, List, [], ◌∷◌, map}
use Rattle.gh_ast.specs.Tokens.{Token, HasTokens, IsWord, IsFree}
use Rattle.gh_ast.specs.Printed.{Lexeme, word, reserved, mark, lexeme_of, line_of}

-- a text has at most one list of tokens
abbrev pub HaveOneList : Type 0
HaveOneList = (text : List ℕ) (ts us : List Token) → HasTokens text ts → HasTokens text us → ts ≡ us

-- a word that is a name
pub record IsNameWord (w : List ℕ) : Type 0 where
  pub word : IsWord w
  pub free : IsFree w

-- a token that a text can have: where it is a word, the word is a name
abbrev pub IsLexeme : Lexeme → Type 0
IsLexeme (word w) = IsNameWord w
IsLexeme (reserved k) = Unit {0}
IsLexeme (mark s) = Unit {0}

abbrev pub AreLexemes : List Lexeme → Type 0
AreLexemes [] = Unit {0}
AreLexemes (l ∷ ls) = IsLexeme l × AreLexemes ls

-- a line of tokens has these tokens and no others
abbrev pub HaveTheirTokens : Type 0
HaveTheirTokens =
    (ls : List Lexeme) → AreLexemes ls → (ts : List Token) × HasTokens (line_of ls) ts × (map lexeme_of ts ≡ ls)

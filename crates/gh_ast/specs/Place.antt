-- The place of a syntax error, for any start symbol of the grammar.
use Rattle.std.specs.Prelude.{◌≡◌, ◌≢◌, ℕ, List, [], ◌∷◌, ◌++◌}
use Rattle.gh_base.specs.declared.place.Span.{Span}
use Rattle.gh_ast.specs.Tokens.{Token, named, key, sign, cleared, first_place, IsTokens, IsStuck}
use Rattle.gh_ast.specs.Plain.{Program}
use Rattle.gh_ast.specs.Grammar.{SpellsProgram}

-- where a token begins
abbrev pub begin_of : Token → Span
begin_of (named o) = o.span
begin_of (key k p) = p
begin_of (sign s p) = p

-- the tokens are a prefix of those of a sentence
abbrev pub IsPrefix : (List Token → Type 0) → List Token → Type 0
IsPrefix Spells ts = (more : List Token) × Spells (ts ++ more)

-- the place of the first token such that the tokens up to and with it are no prefix; a place where no token fits
-- counts as such a token; where all tokens of the text are a prefix and no sentence, the place after the last byte
pub data IsPlace (Spells : List Token → Type 0) (text : List ℕ) : Span → Type 0 where
  at_token : (before : List Token) (t : Token) (after : List Token) (end : Span) (rest : List ℕ)
      → IsTokens first_place (cleared text) (before ++ t ∷ after) end rest
      → IsPrefix Spells before → (IsPrefix Spells (before ++ t ∷ []) → ⊥) → IsPlace Spells text (begin_of t)
  at_no_token : (tokens : List Token) (place : Span) (rest : List ℕ)
      → IsTokens first_place (cleared text) tokens place rest → IsStuck rest → rest ≢ [] → IsPrefix Spells tokens
      → IsPlace Spells text place
  at_end : (tokens : List Token) (end : Span)
      → IsTokens first_place (cleared text) tokens end [] → IsPrefix Spells tokens → (Spells tokens → ⊥)
      → IsPlace Spells text end

-- a text has at most one place of a syntax error
abbrev pub HaveOnePlace : (List Token → Type 0) → Type 0
HaveOnePlace Spells = (text : List ℕ) (p q : Span) → IsPlace Spells text p → IsPlace Spells text q → p ≡ q

-- the tokens spell some program
abbrev pub IsProgram : List Token → Type 0
IsProgram ts = (p : Program) × SpellsProgram ts p

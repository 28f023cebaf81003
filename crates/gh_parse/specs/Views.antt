-- The tokens of the code as those of the definitions.
use Rattle.std.specs.Prelude.{ℕ, List, map}
use Rattle.gh_base.specs.declared.place.Span.{Span}
use Rattle.gh_ast.specs.Tokens.{Token, named, key, sign, sign_text, keyword_text}
use Rattle.gh_parse.specs.declared.token.Symbol.{Symbol}
use Rattle.gh_parse.specs.declared.token.Symbol.TheVariants.{Name, Key, Sign}
use Rattle.gh_parse.specs.declared.token.Token as read

abbrev pub symbol_at : Symbol → Span → Token
symbol_at (Name w) p = named (record { name = w.bytes.now; span = p })
symbol_at (Key k) p = key k p
symbol_at (Sign s) p = sign s p

-- how the symbol is written
abbrev pub symbol_text : Symbol → List ℕ
symbol_text (Name w) = w.bytes.now
symbol_text (Key k) = keyword_text k
symbol_text (Sign s) = sign_text s

abbrev pub token_of : read.Token → Token
token_of t = symbol_at t.symbol t.span

abbrev pub tokens_of : List read.Token → List Token
tokens_of = map token_of

-- What the parser answers for a rule of the grammar.
use Rattle.std.specs.Prelude.{◌≡◌, List, [], ◌∷◌, Bool, ⊤, Option, MatchOption, MatchBool, Result, MatchResult}
use Rattle.gh_base.specs.declared.place.Span.{Span}
use Rattle.gh_ast.specs.declared.Occ.{Occ}
use Rattle.gh_ast.specs.declared.sign.Sign as signs
use Rattle.gh_ast.specs.declared.sign.Keyword as words
use Rattle.gh_ast.specs.Grammar.{NoSign, NoKey}
use Rattle.gh_ast.specs.Tokens.{Token, named, key, sign}
use Rattle.gh_ast.specs.Place.{begin_of}
use Rattle.gh_ast.specs.Printed.{equality}
use Rattle.gh_parse.specs.Stops.{NoToken, Any, Stops}
use Rattle.gh_parse.specs.declared.error.ReadError.{ReadError}
use Rattle.gh_parse.specs.declared.error.ReadError.TheVariants.{Unexpected, OutOfMemory}
use Rattle.gh_parse.specs.Views.{tokens_of}
use Rattle.gh_parse.specs.declared.cursor.Parser.{Parser}
use Rattle.gh_parse.specs.declared.cursor.LookAhead.{LookAhead}
use Rattle.gh_parse.specs.declared.cursor.LookAhead.TheVariants.{Name, Key, Sign, End}

-- a token is unexpected exactly where reading stops
abbrev pub IsRuleRefusal : (List Token → Type 0) → (List Token → List Token → Type 0) → List Token → List Token
    → ReadError → Type 0
IsRuleRefusal Follows P ts left Unexpected = Stops Follows P ts left
IsRuleRefusal Follows P ts left OutOfMemory = ⊤

-- the answer is what the rule spells at the front, or reading stops where the tokens are left
abbrev pub IsRuleRead : {X Y : Type 0} → (List Token → Type 0) → (List Token → X → List Token → Type 0) → List Token
    → (Y → X) → Result Y ReadError → List Token → Type 0
IsRuleRead Follows P ts view answer left =
    MatchResult answer (λ y. P ts (view y) left) (IsRuleRefusal Follows (Any P) ts left)

-- the tokens that a parser has left
abbrev pub left_of : Parser → List Token
left_of parser = tokens_of parser.rest.now

-- the same of what a parser has left before and after
abbrev pub IsReadBy : {X Y : Type 0} → (List Token → Type 0) → (List Token → X → List Token → Type 0) → Parser → (Y → X)
    → Result Y ReadError → Parser → Type 0
IsReadBy Follows P old view answer new = IsRuleRead Follows P (left_of old) view answer (left_of new)

-- a sign is taken where it is next, and a reserved word likewise
abbrev pub IsSignTaken : signs.Sign → Parser → Option Span → Parser → Type 0
IsSignTaken s old found new = MatchOption found (NoSign s (left_of old)) (λ p. left_of old ≡ sign s p ∷ left_of new)

abbrev pub IsKeyTaken : words.Keyword → Parser → Option Span → Parser → Type 0
IsKeyTaken k old found new = MatchOption found (NoKey k (left_of old)) (λ p. left_of old ≡ key k p ∷ left_of new)

-- no token of the kind k is next, and nothing is taken
pub record IsGap {X : Type 0} (k : X → Token) (ts left : List Token) : Type 0 where
  pub stays : left ≡ ts
  pub none : NoToken k ts

abbrev pub IsMissing : {X : Type 0} → (X → Token) → List Token → List Token → ReadError → Type 0
IsMissing k ts left Unexpected = IsGap k ts left
IsMissing k ts left OutOfMemory = ⊤

-- the answer where one token of the kind k is asked for
abbrev pub TakesKind : {X : Type 0} → (X → Token) → List Token → Result X ReadError → List Token → Type 0
TakesKind k ts answer left = MatchResult answer (λ x. ts ≡ k x ∷ left) (IsMissing k ts left)

-- the next token is this sign, or this reserved word
abbrev pub HasSign : signs.Sign → List Token → Type 0
HasSign s ts = (p : Span) × (rest : List Token) × (ts ≡ sign s p ∷ rest)

abbrev pub HasKey : words.Keyword → List Token → Type 0
HasKey k ts = (p : Span) × (rest : List Token) × (ts ≡ key k p ∷ rest)

-- the answer says whether the next token is this sign, or this reserved word
abbrev pub IsSignNext : signs.Sign → Parser → Bool → Type 0
IsSignNext s parser answer = MatchBool answer (HasSign s (left_of parser)) (NoSign s (left_of parser))

abbrev pub IsKeyNext : words.Keyword → Parser → Bool → Type 0
IsKeyNext k parser answer = MatchBool answer (HasKey k (left_of parser)) (NoKey k (left_of parser))

-- the next token is of this kind
abbrev pub IsAhead : LookAhead → List Token → Type 0
IsAhead Name ts = (o : Occ) × (rest : List Token) × (ts ≡ named o ∷ rest)
IsAhead (Key k) ts = HasKey k ts
IsAhead (Sign s) ts = HasSign s ts
IsAhead End ts = ts ≡ []

-- where the next token begins, or the text ends
abbrev pub next_place : Span → List Token → Span
next_place end [] = end
next_place end (t ∷ ts) = begin_of t

-- `==` where the two are to be equal, `!=` where they are to differ
abbrev pub SpellsComparison : List Token → Bool → List Token → Type 0
SpellsComparison ts equal rest = (p : Span) × (ts ≡ sign (equality equal) p ∷ rest)

-- what a rule spells, between two signs
pub record IsBetween {X : Type 0} (opening closing : signs.Sign) (P : List Token → X → List Token → Type 0)
    (ts : List Token) (x : X) (rest : List Token) : Type 0 where
  pub first : Span
  pub last : Span
  pub inner : List Token
  pub front : ts ≡ sign opening first ∷ inner
  pub within : P inner x (sign closing last ∷ rest)

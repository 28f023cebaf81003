-- What the parser answers for a text.
use Rattle.std.specs.Prelude.{◌≡◌, ℕ, List, Bool, true, false, ⊤, Result, Ok, Err, MatchResult}
use Rattle.gh_ast.specs.Tokens.{Token, HasTokens, IsFirstByte, IsFirstDeep}
use Rattle.gh_ast.specs.Plain.{Program}
use Rattle.gh_ast.specs.Questions.{Question}
use Rattle.gh_base.specs.declared.place.Span.{Span}
use Rattle.gh_ast.specs.Grammar.{SpellsProgram}
use Rattle.gh_ast.specs.QuestionGrammar.{SpellsQuestion}
use Rattle.gh_ast.specs.Place.{IsPlace}
use Rattle.gh_ast.specs.Bare.{bare_program}
use Rattle.gh_ast.specs.Printed.{program_text}
use Rattle.gh_parse.specs.Views.{tokens_of}
use Rattle.gh_parse.specs.Scanning.{IsDeepPlace}
use Rattle.gh_parse.specs.Lexing.{IsLexed}
use Rattle.gh_parse.specs.Answers.{next_place}
use Rattle.gh_parse.specs.declared.lexer.Lexed.{Lexed}
use Rattle.gh_parse.specs.declared.error.ParseError.{ParseError}
use Rattle.gh_parse.specs.declared.error.ParseError.TheVariants.{Byte, Deep, Syntax, OutOfMemory}
use Rattle.gh_parse.specs.declared.error.ReadError.{ReadError}
use Rattle.gh_parse.specs.declared.error.ReadError.TheVariants as read

-- every byte outside comments is a character of the grammar
abbrev pub HasCharacters : List ℕ → Type 0
HasCharacters text = (k : ℕ) → IsFirstByte text k → ⊥

-- brackets never nest too deep
abbrev pub IsShallow : List ℕ → Type 0
IsShallow text = (k : ℕ) → IsFirstDeep text k → ⊥

-- no byte and no bracket of the text is refused, and its tokens spell the value
pub record IsParsedAs {X : Type 0} (Spells : List Token → X → Type 0) (text : List ℕ) (x : X) : Type 0 where
  pub characters : HasCharacters text
  pub shallow : IsShallow text
  pub spelled : (ts : List Token) × HasTokens text ts × Spells ts x

-- no byte and no bracket of the text is refused, but its tokens spell no value; the span is the place of its error
pub record IsMisspelled {X : Type 0} (Spells : List Token → X → Type 0) (text : List ℕ) (span : Span) : Type 0 where
  pub characters : HasCharacters text
  pub shallow : IsShallow text
  pub none : (x : X) → (ts : List Token) × HasTokens text ts × Spells ts x → ⊥
  pub place : IsPlace (λ ts. (x : X) × Spells ts x) text span

-- the first byte that is no character comes before all, then the first bracket that nests too deep
abbrev pub IsRefusalOf : {X : Type 0} → (List Token → X → Type 0) → List ℕ → ParseError → Type 0
IsRefusalOf Spells text (Byte offset) = IsFirstByte text offset
IsRefusalOf Spells text (Deep place) = HasCharacters text × IsDeepPlace text place
IsRefusalOf Spells text (Syntax place) = IsMisspelled Spells text place
IsRefusalOf Spells text OutOfMemory = ⊤

-- programs
abbrev pub IsParsed : List ℕ → Program → Type 0
IsParsed = IsParsedAs SpellsProgram

abbrev pub IsParseRefusal : List ℕ → ParseError → Type 0
IsParseRefusal = IsRefusalOf SpellsProgram

-- questions
abbrev pub IsAsked : List ℕ → Question → Type 0
IsAsked = IsParsedAs SpellsQuestion

abbrev pub IsQuestionRefusal : List ℕ → ParseError → Type 0
IsQuestionRefusal = IsRefusalOf SpellsQuestion

-- no byte and no bracket of the text is refused, and these are the tokens at its front
pub record IsScanned (text : List ℕ) (tokens : List Token) (end : Span) (whole : Bool) : Type 0 where
  pub characters : HasCharacters text
  pub shallow : IsShallow text
  pub lexed : IsLexed text tokens end whole

-- why a text isn't scanned
abbrev pub IsScanRefusal : List ℕ → ParseError → Type 0
IsScanRefusal text (Byte offset) = IsFirstByte text offset
IsScanRefusal text (Deep place) = HasCharacters text × IsDeepPlace text place
IsScanRefusal text (Syntax place) = ⊥
IsScanRefusal text OutOfMemory = ⊤

-- the tokens of the text, or why it has none
abbrev pub IsScan : List ℕ → Result Lexed ParseError → Type 0
IsScan text answer =
    MatchResult answer (λ l. IsScanned text (tokens_of l.tokens.items) l.end l.whole) (IsScanRefusal text)

-- what is answered for a text by what a rule of the grammar answers for its tokens: a text that isn't all tokens is
-- refused where they end
abbrev pub answered : {X : Type 0} → Bool → Span → List Token → Result X ReadError → Result X ParseError
answered true end left (Ok x) = Ok x
answered false end left (Ok x) = Err (Syntax end)
answered whole end left (Err read.Unexpected) = Err (Syntax (next_place end left))
answered whole end left (Err read.OutOfMemory) = Err OutOfMemory

-- a program that a text can give is given again by its printed text, places aside, where the printed text doesn't
-- nest too deep
abbrev pub PrintedParse : Type 0
PrintedParse =
    (text : List ℕ) (p : Program) → IsParsed text p → IsShallow (program_text p)
    → (q : Program) × IsParsed (program_text p) q × (bare_program q ≡ bare_program p)

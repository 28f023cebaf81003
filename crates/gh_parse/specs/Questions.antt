-- Parts of questions that the parser reads by themselves.
use Rattle.std.specs.Prelude.{◌≡◌, List, [], ◌∷◌}
use Rattle.gh_base.specs.declared.place.Span.{Span}
use Rattle.gh_ast.specs.declared.sign.Sign.TheVariants as sg
use Rattle.gh_ast.specs.declared.sign.Keyword.TheVariants as kw
use Rattle.gh_ast.specs.Tokens.{Token, key}
use Rattle.gh_ast.specs.Questions.{Claim, claim_of}
use Rattle.gh_ast.specs.Grammar.{NoSign}
use Rattle.gh_ast.specs.QuestionGrammar.{SpellsClaim}
use Rattle.gh_parse.specs.declared.questions.Claims.{Claims}

-- what may follow a claim: neither `&&` nor `||`, by which it would go on
pub record IsApart (ts : List Token) : Type 0 where
  pub and : NoSign sg.And ts
  pub or : NoSign sg.Or ts

-- what a rule spells, and no token is left
pub record SpellsWhole {X : Type 0} (P : List Token → X → List Token → Type 0) (ts : List Token) (x : X)
    (rest : List Token) : Type 0 where
  pub spelled : P ts x rest
  pub end : rest ≡ []

-- the claims of a question
pub record Pair : Type 0 where
  pub left : Claim
  pub right : Claim

abbrev pub claims_of : Claims → Pair
claims_of c = record { left = claim_of c.left; right = claim_of c.right }

-- two claims with `ensures` between them, and no token is left
pub record SpellsClaims (ts : List Token) (c : Pair) (rest : List Token) : Type 0 where
  pub word : Span
  pub before_word : List Token
  pub after_word : List Token
  pub left : SpellsClaim ts c.left before_word
  pub middle : before_word ≡ key kw.Ensures word ∷ after_word
  pub right : SpellsWhole SpellsClaim after_word c.right rest

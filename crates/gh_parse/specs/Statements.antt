-- Parts of statements that the parser reads by themselves.
use Rattle.std.specs.Prelude.{◌≡◌, List, ◌∷◌, Option, MatchOption}
use Rattle.gh_base.specs.declared.place.Span.{Span}
use Rattle.gh_ast.specs.declared.Occ.{Occ}
use Rattle.gh_ast.specs.declared.Expr.{Expr}
use Rattle.gh_ast.specs.declared.Expr.TheVariants.{Plain}
use Rattle.gh_ast.specs.declared.Operand.TheVariants.{Var}
use Rattle.gh_ast.specs.declared.sign.Sign.TheVariants as sg
use Rattle.gh_ast.specs.declared.sign.Keyword.TheVariants as kw
use Rattle.gh_ast.specs.Plain.{Assertion, assertion_of, Statement, no_statements, Block, block_of}
use Rattle.gh_ast.specs.Tokens.{Token, named, key, sign}
use Rattle.gh_ast.specs.Grammar.{NoKey, SpellsClause, SpellsValues, SpellsTargets, SpellsStatement, SpellsBlock}
use Rattle.gh_ast.specs.Grammar.{SpellsStatements}
use Rattle.gh_parse.specs.declared.statements.Repeated.{Repeated}

-- the variable that the expression is, if it is one
abbrev pub IsVariableOf : Expr → Option Occ → Type 0
IsVariableOf e found = MatchOption found ((o : Occ) → e ≡ Plain (Var o) → ⊥) (λ o. e ≡ Plain (Var o))

-- values in brackets, and a semicolon
pub record SpellsArguments (ts : List Token) (es : List Expr) (rest : List Token) : Type 0 where
  pub bracket : Span
  pub end : Span
  pub inside : List Token
  pub front : ts ≡ sign sg.ParenOpen bracket ∷ inside
  pub values : SpellsValues sg.ParenClose inside es (sign sg.Semicolon end ∷ rest)

-- the targets of a call, and a statement, after a first name
abbrev pub SpellsTargetsFrom : Occ → List Token → List Occ → List Token → Type 0
SpellsTargetsFrom o ts l rest = SpellsTargets (named o ∷ ts) l rest

abbrev pub SpellsNamed : Occ → List Token → Statement → List Token → Type 0
SpellsNamed o ts s rest = SpellsStatement (named o ∷ ts) s rest

-- a block, and statements up to a brace, each with the place of the brace
abbrev pub SpellsWholeBlock : List Token → Block → List Token → Type 0
SpellsWholeBlock ts p rest = SpellsBlock ts p.statements p.close rest

abbrev pub SpellsRun : List Token → Block → List Token → Type 0
SpellsRun ts p rest = SpellsStatements ts p.statements p.close rest

-- `else` and a block, or nothing where the word is missing: an empty block that closes at the place
pub data SpellsOtherwise (close : Span) : List Token → Block → List Token → Type 0 where
  no_else : {ts : List Token} → NoKey kw.Else ts
      → SpellsOtherwise close ts (record { statements = no_statements; close = close }) ts
  an_else : {p : Span} {ts rest : List Token} {b : Block} → SpellsWholeBlock ts b rest
      → SpellsOtherwise close (key kw.Else p ∷ ts) b rest

-- an invariant, which may be missing, and a block
pub record Repeat : Type 0 where
  pub invariant : Assertion
  pub body : Block

abbrev pub repeat_of : Repeated → Repeat
repeat_of r = record { invariant = assertion_of r.invariant; body = block_of r.body }

pub record SpellsRepeated (ts : List Token) (r : Repeat) (rest : List Token) : Type 0 where
  pub after_invariant : List Token
  pub invariant : SpellsClause kw.Invariant ts r.invariant after_invariant
  pub body : SpellsWholeBlock after_invariant r.body rest

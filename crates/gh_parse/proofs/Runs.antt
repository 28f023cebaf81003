-- Statements that are read one by one.
use Rattle.std.proofs.Common.{◌≡◌, ◌≤◌, List, [], ◌∷◌, length, refl, ap}
use Rattle.gh_ast.specs.Plain.{Statement, no_statements, statement_first, statements_of, Block}
use Rattle.gh_ast.specs.Tokens.{Token}
use Rattle.gh_parse.specs.Stops.{EndsHere}
use Rattle.gh_parse.specs.Statements.{SpellsRun}
use Rattle.gh_parse.proofs.Turns.{Goes, before}

pub before-none : (xs : List Statement) → before statement_first xs no_statements ≡ statements_of xs
before-none [] = refl
before-none (x ∷ xs) = ap (λ z. statement_first x z) (before-none xs)

-- some statements, and then others
abbrev pub part_before : List Statement → Block → Block
part_before xs p = record { statements = before statement_first xs p.statements; close = p.close }

-- the loop over statements
pub record Runs (start now : List Token) (xs : List Statement) : Type 0 where
  pub goes : Goes EndsHere SpellsRun SpellsRun now start (λ p. part_before xs p)
  pub left : length now ≤ length start

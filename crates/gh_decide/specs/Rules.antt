-- What the composition needs of the type rules.
use Rattle.std.specs.Prelude.{Contains}
use Rattle.gh_ast.specs.Plain.{Statement, if, while, return, Statements, no_statements, statement_first, Procedure}
use Rattle.gh_ast.specs.Plain.{Program}
use Rattle.gh_ast.specs.Programs.{Name, parameters_of, results_of, body_statements, SomeAssigns}
use Rattle.gh_ast.specs.Names.{AssertionIn}

-- no return stands in the statement
abbrev mutual
  pub ReturnsNot : Statement → Type 0
  ReturnsNot (if t a c b d) = AllReturnNot a × AllReturnNot b
  ReturnsNot (while at t i body close) = AllReturnNot body
  ReturnsNot (return at es) = ⊥
  ReturnsNot s = Unit {0}

  pub AllReturnNot : Statements → Type 0
  AllReturnNot no_statements = Unit {0}
  AllReturnNot (statement_first s ss) = ReturnsNot s × AllReturnNot ss

-- no return stands in a loop
abbrev mutual
  pub LoopsReturnNot : Statement → Type 0
  LoopsReturnNot (if t a c b d) = AllLoopsReturnNot a × AllLoopsReturnNot b
  LoopsReturnNot (while at t i body close) = AllReturnNot body × AllLoopsReturnNot body
  LoopsReturnNot s = Unit {0}

  pub AllLoopsReturnNot : Statements → Type 0
  AllLoopsReturnNot no_statements = Unit {0}
  AllLoopsReturnNot (statement_first s ss) = LoopsReturnNot s × AllLoopsReturnNot ss

-- no parameter is assigned or is a result, `requires` speaks of parameters alone, and no return stands in a loop
pub record KeepsRules (p : Procedure) : Type 0 where
  pub parameters_stay : (y : Name) → Contains (parameters_of p) y → SomeAssigns (body_statements p) y → ⊥
  pub distinct : (y : Name) → Contains (parameters_of p) y → Contains (results_of p) y → ⊥
  pub needs_in : AssertionIn p.needs (parameters_of p)
  pub loops_return_not : AllLoopsReturnNot (body_statements p)

abbrev pub AllKeepRules : Program → Type 0
AllKeepRules P = (q : Procedure) → Contains P.procedures q → KeepsRules q

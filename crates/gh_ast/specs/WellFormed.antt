-- Programs in the shape that texts give them: lists of tests, of parts of an assertion and of alternatives have no
-- fewer members than a text can spell, and no test of an assertion's cases has a read.
use Rattle.std.specs.Prelude.{◌≡◌, ◌≤◌, length, Bool, true, false, Option, None, Some, All}
use Rattle.gh_ast.specs.declared.Expr.{Expr}
use Rattle.gh_ast.specs.declared.Expr.TheVariants.{Plain, Read}
use Rattle.gh_ast.specs.Plain.{Cond, compare, negation, conjunction, disjunction, Conds, no_conds, cond_first}
use Rattle.gh_ast.specs.Plain.{Assertion, star, cases, Assertions, no_assertions, assertion_first}
use Rattle.gh_ast.specs.Plain.{Statement, if, while, Statements, no_statements, statement_first, Body, Procedure}
use Rattle.gh_ast.specs.Plain.{Program}

-- a read stands only where reads may
abbrev pub MayStand : Bool → Expr → Type 0
MayStand reads (Plain o) = Unit {0}
MayStand reads (Read o) = reads ≡ true

-- two members or more
abbrev pub AreManyConds : Conds → Type 0
AreManyConds no_conds = ⊥
AreManyConds (cond_first t no_conds) = ⊥
AreManyConds (cond_first t (cond_first u us)) = Unit {0}

abbrev mutual
  -- a test in the shape that texts give it; the truth value says whether reads may stand in it
  pub IsFormedCond : Bool → Cond → Type 0
  IsFormedCond reads (compare l e r) = MayStand reads l × MayStand reads r
  IsFormedCond reads (negation t) = IsFormedCond reads t
  IsFormedCond reads (conjunction ts) = AreManyConds ts × AreFormedConds reads ts
  IsFormedCond reads (disjunction ts) = AreManyConds ts × AreFormedConds reads ts

  pub AreFormedConds : Bool → Conds → Type 0
  AreFormedConds reads no_conds = Unit {0}
  AreFormedConds reads (cond_first t ts) = IsFormedCond reads t × AreFormedConds reads ts

abbrev pub AreManyAssertions : Assertions → Type 0
AreManyAssertions no_assertions = ⊥
AreManyAssertions (assertion_first f no_assertions) = ⊥
AreManyAssertions (assertion_first f (assertion_first g fs)) = Unit {0}

abbrev mutual
  pub IsFormedAssertion : Assertion → Type 0
  IsFormedAssertion (star fs) = AreManyAssertions fs × AreFormedAssertions fs
  IsFormedAssertion (cases t f g) = IsFormedCond false t × IsFormedAssertion f × IsFormedAssertion g
  IsFormedAssertion _ = Unit {0}

  pub AreFormedAssertions : Assertions → Type 0
  AreFormedAssertions no_assertions = Unit {0}
  AreFormedAssertions (assertion_first f fs) = IsFormedAssertion f × AreFormedAssertions fs

abbrev mutual
  pub IsFormedStatement : Statement → Type 0
  IsFormedStatement (if t a c b d) = IsFormedCond true t × AreFormedStatements a × AreFormedStatements b
  IsFormedStatement (while s t i b c) = IsFormedCond true t × IsFormedAssertion i × AreFormedStatements b
  IsFormedStatement _ = Unit {0}

  pub AreFormedStatements : Statements → Type 0
  AreFormedStatements no_statements = Unit {0}
  AreFormedStatements (statement_first s ss) = IsFormedStatement s × AreFormedStatements ss

abbrev pub IsFormedBody : Option Body → Type 0
IsFormedBody None = Unit {0}
IsFormedBody (Some b) = AreFormedStatements b.statements

pub record IsFormedProcedure (q : Procedure) : Type 0 where
  pub needs : IsFormedAssertion q.needs
  pub some : 1 ≤ length q.gives
  pub gives : All IsFormedAssertion q.gives
  pub body : IsFormedBody q.body

abbrev pub IsWellFormed : Program → Type 0
IsWellFormed p = All IsFormedProcedure p.procedures

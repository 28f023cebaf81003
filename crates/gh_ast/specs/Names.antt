-- Whether all names of an expression, a test or an assertion are in a list.
use Rattle.std.specs.Prelude.{List, Contains}
use Rattle.gh_ast.specs.Plain.{Cond, compare, negation, conjunction, disjunction, Conds, no_conds, cond_first}
use Rattle.gh_ast.specs.Plain.{Assertion, empty, comparison, points_to, cell, segment, star, cases, Assertions}
use Rattle.gh_ast.specs.Plain.{no_assertions, assertion_first}
use Rattle.gh_ast.specs.declared.Operand.{Operand}
use Rattle.gh_ast.specs.declared.Operand.TheVariants.{Null, Var}
use Rattle.gh_ast.specs.declared.Expr.{Expr}
use Rattle.gh_ast.specs.declared.Expr.TheVariants.{Plain, Read}
use Rattle.gh_ast.specs.Programs.{Name}

abbrev pub OperandIn : Operand → List Name → Type 0
OperandIn (Null span) xs = Unit {0}
OperandIn (Var o) xs = Contains xs o.name

abbrev pub ExprIn : Expr → List Name → Type 0
ExprIn (Plain o) xs = OperandIn o xs
ExprIn (Read o) xs = Contains xs o.name

abbrev mutual
  pub CondIn : Cond → List Name → Type 0
  CondIn (compare l e r) xs = ExprIn l xs × ExprIn r xs
  CondIn (negation t) xs = CondIn t xs
  CondIn (conjunction ts) xs = CondsIn ts xs
  CondIn (disjunction ts) xs = CondsIn ts xs

  pub CondsIn : Conds → List Name → Type 0
  CondsIn no_conds xs = Unit {0}
  CondsIn (cond_first t ts) xs = CondIn t xs × CondsIn ts xs

abbrev mutual
  pub AssertionIn : Assertion → List Name → Type 0
  AssertionIn empty xs = Unit {0}
  AssertionIn (comparison l e r) xs = OperandIn l xs × OperandIn r xs
  AssertionIn (points_to at to) xs = Contains xs at.name × OperandIn to xs
  AssertionIn (cell at) xs = Contains xs at.name
  AssertionIn (segment x y) xs = OperandIn x xs × OperandIn y xs
  AssertionIn (star fs) xs = AssertionsIn fs xs
  AssertionIn (cases t f g) xs = CondIn t xs × AssertionIn f xs × AssertionIn g xs

  pub AssertionsIn : Assertions → List Name → Type 0
  AssertionsIn no_assertions xs = Unit {0}
  AssertionsIn (assertion_first f fs) xs = AssertionIn f xs × AssertionsIn fs xs

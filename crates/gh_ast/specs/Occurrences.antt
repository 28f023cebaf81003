-- The occurrences of variables, and what the rules look at in a procedure.
use Rattle.std.specs.Prelude.{List, [], ◌∷◌, ◌++◌, map, Bool, true, false, Option, None, Some}
use Rattle.std.specs.List.{flat_map}
use Rattle.gh_base.specs.declared.place.Span.{Span}
use Rattle.gh_ast.specs.declared.Occ.{Occ}
use Rattle.gh_ast.specs.declared.Operand.{Operand}
use Rattle.gh_ast.specs.declared.Operand.TheVariants.{Null, Var}
use Rattle.gh_ast.specs.declared.Expr.{Expr}
use Rattle.gh_ast.specs.declared.Expr.TheVariants.{Plain, Read}
use Rattle.gh_ast.specs.Plain.{Cond, compare, negation, conjunction, disjunction, Conds, no_conds, cond_first}
use Rattle.gh_ast.specs.Plain.{Assertion, empty, comparison, points_to, cell, segment, star, cases, Assertions}
use Rattle.gh_ast.specs.Plain.{no_assertions, assertion_first, Statement, set, new, write, free, call, if, while}
use Rattle.gh_ast.specs.Plain.{return, Statements, no_statements, statement_first, Body, Procedure}

abbrev pub in_operand : Operand → List Occ
in_operand (Null s) = []
in_operand (Var o) = o ∷ []

abbrev pub in_expr : Expr → List Occ
in_expr (Plain o) = in_operand o
in_expr (Read o) = o ∷ []

abbrev pub in_exprs : List Expr → List Occ
in_exprs es = flat_map in_expr es

abbrev mutual
  pub in_cond : Cond → List Occ
  in_cond (compare l e r) = in_expr l ++ in_expr r
  in_cond (negation t) = in_cond t
  in_cond (conjunction ts) = in_conds ts
  in_cond (disjunction ts) = in_conds ts

  pub in_conds : Conds → List Occ
  in_conds no_conds = []
  in_conds (cond_first t ts) = in_cond t ++ in_conds ts

abbrev mutual
  pub in_assertion : Assertion → List Occ
  in_assertion empty = []
  in_assertion (comparison l e r) = in_operand l ++ in_operand r
  in_assertion (points_to a t) = a ∷ in_operand t
  in_assertion (cell a) = a ∷ []
  in_assertion (segment f t) = in_operand f ++ in_operand t
  in_assertion (star fs) = in_assertions fs
  in_assertion (cases t a b) = in_cond t ++ in_assertion a ++ in_assertion b

  pub in_assertions : Assertions → List Occ
  in_assertions no_assertions = []
  in_assertions (assertion_first f fs) = in_assertion f ++ in_assertions fs

-- in the alternatives of what a procedure ensures, in order
abbrev pub in_alternatives : List Assertion → List Occ
in_alternatives fs = flat_map in_assertion fs

-- what a rule may look at
pub data Site : Type 0 where
  -- an occurrence of a variable
  mentioned : Occ → Site
  -- the targets of one statement
  assigned : List Occ → Site
  -- a call: its targets, its callee, its arguments
  called : List Occ → Occ → List Expr → Site
  -- a return: whether it stands inside a loop's body, its word, its values
  returned : Bool → Span → List Expr → Site

abbrev mutual
  -- the sites of a statement, which stands inside a loop's body or not
  pub sites_in : Bool → Statement → List Site
  sites_in inside (set t e) = assigned (t ∷ []) ∷ map mentioned (t ∷ in_expr e)
  sites_in inside (new t) = assigned (t ∷ []) ∷ mentioned t ∷ []
  sites_in inside (write a e) = map mentioned (a ∷ in_expr e)
  sites_in inside (free a) = mentioned a ∷ []
  sites_in inside (call ts c es) = assigned ts ∷ called ts c es ∷ map mentioned (ts ++ in_exprs es)
  sites_in inside (if t a ca b cb) = map mentioned (in_cond t) ++ all_sites_in inside a ++ all_sites_in inside b
  sites_in inside (while s t i b cb) = map mentioned (in_cond t ++ in_assertion i) ++ all_sites_in true b
  sites_in inside (return s es) = returned inside s es ∷ map mentioned (in_exprs es)

  pub all_sites_in : Bool → Statements → List Site
  all_sites_in inside no_statements = []
  all_sites_in inside (statement_first s ss) = sites_in inside s ++ all_sites_in inside ss

abbrev pub sites_in_body : Option Body → List Site
sites_in_body None = []
sites_in_body (Some b) = all_sites_in false b.statements

-- the sites of a procedure: its contracts and its body
abbrev pub sites_of : Procedure → List Site
sites_of q = map mentioned (in_assertion q.needs ++ in_alternatives q.gives) ++ sites_in_body q.body

abbrev pub locals_in : Option Body → List Occ
locals_in None = []
locals_in (Some b) = b.locals

abbrev pub locals_of : Procedure → List Occ
locals_of q = locals_in q.body

-- the variables of a procedure, in the order of their numbers
abbrev pub variables_of : Procedure → List Occ
variables_of q = q.parameters ++ q.results ++ locals_of q

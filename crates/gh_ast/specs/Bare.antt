-- Programs with their places forgotten.
use Rattle.std.specs.Prelude.{◌≡◌, ℕ, List, map}
use Rattle.std.specs.Option.{option_map}
use Rattle.gh_ast.specs.declared.Occ.{Occ}
use Rattle.gh_ast.specs.declared.Operand.{Operand}
use Rattle.gh_ast.specs.declared.Operand.TheVariants as operand
use Rattle.gh_ast.specs.declared.Expr.{Expr}
use Rattle.gh_ast.specs.declared.Expr.TheVariants as expr
use Rattle.gh_ast.specs.declared.Field.{Field}
use Rattle.gh_ast.specs.Plain.{Cond, compare, negation, conjunction, disjunction, Conds, no_conds, cond_first}
use Rattle.gh_ast.specs.Plain.{Assertion, empty, comparison, points_to, cell, segment, star, cases, Assertions}
use Rattle.gh_ast.specs.Plain.{no_assertions, assertion_first, Statement, set, new, write, free, call, if, while}
use Rattle.gh_ast.specs.Plain.{return, Statements, no_statements, statement_first, Body, Procedure, Program}
use Rattle.gh_ast.specs.Tokens.{first_place}
use Rattle.gh_ast.specs.Grammar.{Spells}
use Rattle.gh_ast.specs.Printed.{program_text}

abbrev pub bare_occ : Occ → Occ
bare_occ o = record { name = o.name; span = first_place }

abbrev pub bare_operand : Operand → Operand
bare_operand (operand.Null p) = operand.Null first_place
bare_operand (operand.Var o) = operand.Var (bare_occ o)

abbrev pub bare_expr : Expr → Expr
bare_expr (expr.Plain o) = expr.Plain (bare_operand o)
bare_expr (expr.Read o) = expr.Read (bare_occ o)

abbrev mutual
  pub bare_cond : Cond → Cond
  bare_cond (compare l e r) = compare (bare_expr l) e (bare_expr r)
  bare_cond (negation t) = negation (bare_cond t)
  bare_cond (conjunction ts) = conjunction (bare_conds ts)
  bare_cond (disjunction ts) = disjunction (bare_conds ts)

  pub bare_conds : Conds → Conds
  bare_conds no_conds = no_conds
  bare_conds (cond_first t ts) = cond_first (bare_cond t) (bare_conds ts)

abbrev mutual
  pub bare_assertion : Assertion → Assertion
  bare_assertion empty = empty
  bare_assertion (comparison l e r) = comparison (bare_operand l) e (bare_operand r)
  bare_assertion (points_to o y) = points_to (bare_occ o) (bare_operand y)
  bare_assertion (cell o) = cell (bare_occ o)
  bare_assertion (segment x y) = segment (bare_operand x) (bare_operand y)
  bare_assertion (star l) = star (bare_assertions l)
  bare_assertion (cases t x y) = cases (bare_cond t) (bare_assertion x) (bare_assertion y)

  pub bare_assertions : Assertions → Assertions
  bare_assertions no_assertions = no_assertions
  bare_assertions (assertion_first x l) = assertion_first (bare_assertion x) (bare_assertions l)

abbrev mutual
  pub bare_statement : Statement → Statement
  bare_statement (set o e) = set (bare_occ o) (bare_expr e)
  bare_statement (new o) = new (bare_occ o)
  bare_statement (write o e) = write (bare_occ o) (bare_expr e)
  bare_statement (free o) = free (bare_occ o)
  bare_statement (call xs f es) = call (map bare_occ xs) (bare_occ f) (map bare_expr es)
  bare_statement (if t a c b d) = if (bare_cond t) (bare_statements a) first_place (bare_statements b) first_place
  bare_statement (while p t i a c) = while first_place (bare_cond t) (bare_assertion i) (bare_statements a) first_place
  bare_statement (return p es) = return first_place (map bare_expr es)

  pub bare_statements : Statements → Statements
  bare_statements no_statements = no_statements
  bare_statements (statement_first s a) = statement_first (bare_statement s) (bare_statements a)

abbrev pub bare_body : Body → Body
bare_body b = record { locals = map bare_occ b.locals; statements = bare_statements b.statements; close = first_place }

abbrev pub bare_field : Field → Field
bare_field f = record { name = bare_occ f.name; kind = f.kind }

abbrev pub bare_procedure : Procedure → Procedure
bare_procedure p =
    record {
      name = bare_occ p.name;
      parameters = map bare_occ p.parameters;
      results = map bare_occ p.results;
      needs = bare_assertion p.needs;
      gives = map bare_assertion p.gives;
      body = option_map bare_body p.body;
      close = first_place;
    }

abbrev pub bare_program : Program → Program
bare_program p = record {
  fields = map bare_field p.fields;
  close = first_place;
  procedures = map bare_procedure p.procedures;
}

-- the printed text of a program that some text spells spells the same program, but for the places
abbrev pub ReadBack : Type 0
ReadBack =
    (text : List ℕ) (p : Program) → Spells text p
    → (q : Program) × Spells (program_text p) q × (bare_program q ≡ bare_program p)

-- The plain forms of the syntax: each `Vec` is the list of its members.
use Rattle.std.specs.Prelude.{List, [], ◌∷◌, map, Bool, Option}
use Rattle.std.specs.Option.{option_map}
use Rattle.gh_base.specs.declared.place.Span.{Span}
use Rattle.gh_ast.specs.declared.Occ.{Occ}
use Rattle.gh_ast.specs.declared.Operand.{Operand}
use Rattle.gh_ast.specs.declared.Expr.{Expr}
use Rattle.gh_ast.specs.declared.Cond.{Cond as CodeCond}
use Rattle.gh_ast.specs.declared.Cond.TheOpen.{Cond-F}
use Rattle.gh_ast.specs.declared.Cond.TheFolds.{fold-Cond}
use Rattle.gh_ast.specs.declared.Assertion.{Assertion as CodeAssertion}
use Rattle.gh_ast.specs.declared.Assertion.TheOpen.{Assertion-F}
use Rattle.gh_ast.specs.declared.Assertion.TheFolds.{fold-Assertion}
use Rattle.gh_ast.specs.declared.Stmt.{Stmt}
use Rattle.gh_ast.specs.declared.Block.{Block as CodeBlock}
use Rattle.gh_ast.specs.declared.Stmt.TheOpen.{Stmt-F, Block-F}
use Rattle.gh_ast.specs.declared.Stmt.TheFolds.{fold-Stmt, fold-Block}
use Rattle.gh_ast.specs.declared.Field.{Field}
use Rattle.gh_ast.specs.declared.Body.{Body as CodeBody}
use Rattle.gh_ast.specs.declared.Procedure as whole_procedure
use Rattle.gh_ast.specs.declared.Program as whole_program

mutual
  -- in `compare l e r`, l and r are to be equal where e is true, and to differ where it is false
  pub data Cond : Type 0 where
    compare : Expr → Bool → Expr → Cond
    negation : Cond → Cond
    conjunction : Conds → Cond
    disjunction : Conds → Cond

  pub data Conds : Type 0 where
    no_conds : Conds
    cond_first : Cond → Conds → Conds

abbrev pub conds_of : List Cond → Conds
conds_of [] = no_conds
conds_of (t ∷ ts) = cond_first t (conds_of ts)

abbrev pub cond_step : Cond-F Cond → Cond
cond_step (Cond-F.Compare l e r) = compare l e r
cond_step (Cond-F.Not b) = negation b.value
cond_step (Cond-F.And v) = conjunction (conds_of v.items)
cond_step (Cond-F.Or v) = disjunction (conds_of v.items)

abbrev pub cond_of : CodeCond → Cond
cond_of = fold-Cond Cond cond_step

abbrev pub conds_view : List CodeCond → Conds
conds_view cs = conds_of (map cond_of cs)

mutual
  -- in `comparison l e r`, e says whether l and r are to be equal; `cell at` is `acc(at)`, a cell with any content
  pub data Assertion : Type 0 where
    empty : Assertion
    comparison : Operand → Bool → Operand → Assertion
    points_to : Occ → Operand → Assertion
    cell : Occ → Assertion
    segment : Operand → Operand → Assertion
    star : Assertions → Assertion
    cases : Cond → Assertion → Assertion → Assertion

  pub data Assertions : Type 0 where
    no_assertions : Assertions
    assertion_first : Assertion → Assertions → Assertions

abbrev pub assertions_of : List Assertion → Assertions
assertions_of [] = no_assertions
assertions_of (t ∷ ts) = assertion_first t (assertions_of ts)

abbrev pub assertion_step : Assertion-F Assertion → Assertion
assertion_step Assertion-F.Emp = empty
assertion_step (Assertion-F.Pure l e r) = comparison l e r
assertion_step (Assertion-F.PointsTo a t) = points_to a t
assertion_step (Assertion-F.Acc a) = cell a
assertion_step (Assertion-F.Lseg f t) = segment f t
assertion_step (Assertion-F.Star v) = star (assertions_of v.items)
assertion_step (Assertion-F.Cases test b c) = cases (cond_of test) b.value c.value

abbrev pub assertion_of : CodeAssertion → Assertion
assertion_of = fold-Assertion Assertion assertion_step

abbrev pub assertions_view : List CodeAssertion → Assertions
assertions_view xs = assertions_of (map assertion_of xs)

mutual
  -- a block has the place of its last brace after it; a loop and a return begin with the place of their word
  pub data Statement : Type 0 where
    set : Occ → Expr → Statement
    new : Occ → Statement
    write : Occ → Expr → Statement
    free : Occ → Statement
    call : List Occ → Occ → List Expr → Statement
    if : Cond → Statements → Span → Statements → Span → Statement
    while : Span → Cond → Assertion → Statements → Span → Statement
    return : Span → List Expr → Statement

  pub data Statements : Type 0 where
    no_statements : Statements
    statement_first : Statement → Statements → Statements

abbrev pub statements_of : List Statement → Statements
statements_of [] = no_statements
statements_of (t ∷ ts) = statement_first t (statements_of ts)

-- a block: its statements, and the place of its last brace
pub record Block : Type 0 where
  pub statements : Statements
  pub close : Span

abbrev pub block_step : Block-F Statement Block → Block
block_step b = record { statements = statements_of b.statements.items; close = b.close }

abbrev pub statement_step : Stmt-F Statement Block → Statement
statement_step (Stmt-F.Set t v) = set t v
statement_step (Stmt-F.New t) = new t
statement_step (Stmt-F.Write a v) = write a v
statement_step (Stmt-F.Free a) = free a
statement_step (Stmt-F.Call t c a) = call t.items c a.items
statement_step (Stmt-F.If t a b) = if (cond_of t) a.statements a.close b.statements b.close
statement_step (Stmt-F.While s t i b) = while s (cond_of t) (assertion_of i) b.statements b.close
statement_step (Stmt-F.Return s v) = return s v.items

abbrev pub statement_of : Stmt → Statement
statement_of = fold-Stmt Statement Block statement_step block_step

abbrev pub block_of : CodeBlock → Block
block_of = fold-Block Statement Block statement_step block_step

abbrev pub statements_view : List Stmt → Statements
statements_view xs = statements_of (map statement_of xs)

-- a procedure's body: its locals, its statements, and the place of its last brace
pub record Body : Type 0 where
  pub locals : List Occ
  pub statements : Statements
  pub close : Span

-- `close` is the place of the body's last brace, or of the semicolon in the place of a body
pub record Procedure : Type 0 where
  pub name : Occ
  pub parameters : List Occ
  pub results : List Occ
  pub needs : Assertion
  -- the alternatives of what is ensured
  pub gives : List Assertion
  pub body : Option Body
  pub close : Span

-- `close` is the place of the struct's last brace
pub record Program : Type 0 where
  pub fields : List Field
  pub close : Span
  pub procedures : List Procedure

abbrev pub body_of : CodeBody → Body
body_of b = record {
  locals = b.locals.items;
  statements = (block_of b.block).statements;
  close = (block_of b.block).close;
}

abbrev pub procedure_of : whole_procedure.Procedure → Procedure
procedure_of p =
    record {
      name = p.name;
      parameters = p.parameters.items;
      results = p.results.items;
      needs = assertion_of p.needs;
      gives = map assertion_of p.gives.items;
      body = option_map body_of p.body;
      close = p.close;
    }

abbrev pub program_of : whole_program.Program → Program
program_of p = record { fields = p.fields.items; close = p.close; procedures = map procedure_of p.procedures.items }

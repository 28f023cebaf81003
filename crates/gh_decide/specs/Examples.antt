-- Three small programs: one that is good, one that leaks, and one that frees twice.
use Rattle.std.specs.Prelude.{[], ◌∷◌, Some}
use Rattle.gh_base.specs.declared.place.Span.{Span}
use Rattle.gh_ast.specs.declared.Occ.{Occ}
use Rattle.gh_ast.specs.declared.Operand.TheVariants.{Null}
use Rattle.gh_ast.specs.declared.Expr.TheVariants.{Plain}
use Rattle.gh_ast.specs.Plain.{Assertion, empty, cell, write, free, Statements, no_statements, statement_first}
use Rattle.gh_ast.specs.Plain.{Procedure, Program}

abbrev pub somewhere : Span
somewhere = record { line = 1; col = 1 }

abbrev pub x : Occ
x = record { name = 120 ∷ []; span = somewhere }

-- `procedure f(x: Node) requires acc(x) ensures ..`
abbrev pub with_cell : Assertion → Statements → Procedure
with_cell gives body =
    record {
      name = record { name = 102 ∷ []; span = somewhere };
      parameters = x ∷ [];
      results = [];
      needs = cell x;
      gives = gives ∷ [];
      body = Some (record { locals = []; statements = body; close = somewhere });
      close = somewhere;
    }

-- the program of this procedure alone
abbrev pub alone : Procedure → Program
alone p = record { fields = []; close = somewhere; procedures = p ∷ [] }

-- `x.next := null;`
abbrev pub cuts : Procedure
cuts = with_cell (cell x) (statement_first (write x (Plain (Null somewhere))) no_statements)

-- nothing is done, so the cell isn't given back: `ensures emp`
abbrev pub leaks : Procedure
leaks = with_cell empty no_statements

abbrev pub frees_twice : Procedure
frees_twice = with_cell empty (statement_first (free x) (statement_first (free x) no_statements))

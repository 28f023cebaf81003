-- Two programs, one with a loop and one with a call, and where their conditions stand.
use Rattle.std.specs.Prelude.{ℕ, List, [], ◌∷◌, length, Some, true, false, codes}
use Rattle.gh_base.specs.declared.place.Span.{Span}
use Rattle.gh_ast.specs.declared.Occ.{Occ}
use Rattle.gh_ast.specs.declared.Operand.{Operand}
use Rattle.gh_ast.specs.declared.Operand.TheVariants.{Null, Var}
use Rattle.gh_ast.specs.declared.Expr.TheVariants.{Plain, Read}
use Rattle.gh_ast.specs.Plain.{compare, Assertion, segment, star, no_assertions, assertion_first, set, write, call, if}
use Rattle.gh_ast.specs.Plain.{while, return, Statements, no_statements, statement_first, Procedure, Program}
use Rattle.gh_path.specs.Graphs.{check_place}
use Rattle.gh_path.specs.Conditions.{Condition}

abbrev pub at : ℕ → ℕ → Span
at l c = record { line = l; col = c }

abbrev pub named : List ℕ → Span → Occ
named n s = record { name = n; span = s }

-- one letter is a name
abbrev pub var : ℕ → ℕ → ℕ → Operand
var n l c = Var (named (n ∷ []) (at l c))

abbrev pub null : ℕ → ℕ → Operand
null l c = Null (at l c)

-- `lseg(y, null) &*& lseg(c, null)`
abbrev pub both_lists : Assertion
both_lists = star (assertion_first (segment (var 121 10 20) (null 10 23))
    (assertion_first (segment (var 99 10 38) (null 10 41)) no_assertions))

-- t := c.next; c.next := y; y := c; c := t;
abbrev pub turns : Statements
turns =
    statement_first (set (named (116 ∷ []) (at 12 5)) (Read (named (99 ∷ []) (at 12 10))))
    (statement_first (write (named (99 ∷ []) (at 13 5)) (Plain (var 121 13 15)))
    (statement_first (set (named (121 ∷ []) (at 14 5)) (Plain (var 99 14 10)))
    (statement_first (set (named (99 ∷ []) (at 15 5)) (Plain (var 116 15 10)))
    no_statements)))

-- c := x; y := null; while (c != null) ..
abbrev pub reverses : Statements
reverses =
    statement_first (set (named (99 ∷ []) (at 7 3)) (Plain (var 120 7 8)))
    (statement_first (set (named (121 ∷ []) (at 8 3)) (Plain (null 8 8)))
    (statement_first (while (at 9 3) (compare (Plain (var 99 9 10)) false (Plain (null 9 15))) both_lists turns
    (at 16 3))
    no_statements))

-- a list is turned round, cell by cell
abbrev pub reverse : Procedure
reverse =
    record {
      name = named (codes "reverse") (at 2 11);
      parameters = named (120 ∷ []) (at 2 19) ∷ [];
      results = named (121 ∷ []) (at 2 37) ∷ [];
      needs = segment (var 120 3 17) (null 3 20);
      gives = segment (var 121 4 16) (null 4 19) ∷ [];
      body = Some (record {
        locals = named (99 ∷ []) (at 6 7) ∷ named (116 ∷ []) (at 6 10) ∷ [];
        statements = reverses;
        close = at 17 1;
      });
      close = at 17 1;
    }

abbrev pub reversal : Program
reversal = record { fields = []; close = at 1 32; procedures = reverse ∷ [] }

-- n := concat(a.next, b); a.next := n; return a;
abbrev pub goes_on : Statements
goes_on =
    statement_first (call (named (110 ∷ []) (at 10 5) ∷ []) (named (codes "concat") (at 10 10))
    (Read (named (97 ∷ []) (at 10 17)) ∷ Plain (var 98 10 25) ∷ []))
    (statement_first (write (named (97 ∷ []) (at 11 5)) (Plain (var 110 11 15)))
    (statement_first (return (at 12 5) (Plain (var 97 12 12) ∷ []))
    no_statements))

-- if (a == null) { return b; } else ..
abbrev pub concatenates : Statements
concatenates =
    statement_first (if (compare (Plain (var 97 7 7)) true (Plain (null 7 12)))
    (statement_first (return (at 8 5) (Plain (var 98 8 12) ∷ [])) no_statements) (at 9 3) goes_on (at 13 3))
    no_statements

-- a list is hung behind another, by recursion
abbrev pub concat : Procedure
concat =
    record {
      name = named (codes "concat") (at 2 11);
      parameters = named (97 ∷ []) (at 2 18) ∷ named (98 ∷ []) (at 2 27) ∷ [];
      results = named (114 ∷ []) (at 2 45) ∷ [];
      needs = star (assertion_first (segment (var 97 3 17) (null 3 20))
          (assertion_first (segment (var 98 3 35) (null 3 38)) no_assertions));
      gives = segment (var 114 4 16) (null 4 19) ∷ [];
      body = Some (record { locals = named (110 ∷ []) (at 6 7) ∷ []; statements = concatenates; close = at 14 1 });
      close = at 14 1;
    }

abbrev pub concatenation : Program
concatenation = record { fields = []; close = at 1 32; procedures = concat ∷ [] }

-- the place of a condition's check, and the number of steps before it
pub record Row : Type 0 where
  pub place : Span
  pub steps : ℕ

abbrev pub row : ℕ → ℕ → ℕ → Row
row l c n = record { place = at l c; steps = n }

abbrev pub row_of : Condition → Row
row_of c = record { place = check_place c.way.check; steps = length c.way.steps }

-- the loop's entry and the return from the entry; two reads of c and the end of the body from the loop
abbrev pub reversal_rows : List Row
reversal_rows = row 9 3 2 ∷ row 17 1 4 ∷ row 12 10 1 ∷ row 13 5 3 ∷ row 16 3 7 ∷ []

-- the return where a is null; a read of an argument, the entry of the callee, a write and a return where it isn't;
-- nothing at the last brace
abbrev pub concatenation_rows : List Row
concatenation_rows = row 8 5 2 ∷ row 10 17 1 ∷ row 10 10 2 ∷ row 11 5 3 ∷ row 12 5 6 ∷ []

-- Procedures that calls name.
use Rattle.gh_ast.specs.Plain.{Statement, call, if, while, Statements, no_statements, statement_first, Program}
use Rattle.gh_ast.specs.Programs.{Name}
use Rattle.gh_path.specs.Graphs.{number_of, HasProcedure}

-- a procedure has the name
abbrev pub IsKnown : Program → Name → Type 0
IsKnown P f = HasProcedure P (number_of P f)

abbrev mutual
  -- each call in a statement names a procedure
  pub CallsAreKnown : Program → Statement → Type 0
  CallsAreKnown P (call xs f es) = IsKnown P f.name
  CallsAreKnown P (if t a c b d) = AllCallsAreKnown P a × AllCallsAreKnown P b
  CallsAreKnown P (while at t i body close) = AllCallsAreKnown P body
  CallsAreKnown P d = Unit {0}

  pub AllCallsAreKnown : Program → Statements → Type 0
  AllCallsAreKnown P no_statements = Unit {0}
  AllCallsAreKnown P (statement_first d ds) = CallsAreKnown P d × AllCallsAreKnown P ds

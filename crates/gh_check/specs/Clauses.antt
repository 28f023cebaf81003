-- The clauses of lines, as the program has them.
use Rattle.std.specs.Prelude.{◌≡◌, ℕ, List, None, slice_index_or}
use Rattle.gh_base.specs.declared.atom.Lit.{Lit}
use Rattle.gh_log.specs.Sections.{line_clause}
use Rattle.gh_log.specs.Tables.{line_of}
use Rattle.gh_log.specs.declared.lines.LogLine.{LogLine}
use Rattle.gh_check.specs.Kept.{Kept, IsNamed}
use Rattle.gh_check.specs.declared.clauses.LineClause.{LineClause}
use Rattle.gh_check.specs.declared.clauses.LineClause.TheVariants.{Borrowed, Instance}

-- the literals of the clause
abbrev pub lits_in : LineClause → List Lit
lits_in (Borrowed lits) = lits.now
lits_in (Instance clause) = clause

-- what the line names is an instance, if it is a line of an axiom, and its clause is the one at the position
pub record IsLineAt (k : Kept) (position : ℕ) (line : LogLine) : Type 0 where
  pub named : IsNamed k.problem (line_of line)
  pub clause : slice_index_or k.clauses position None ≡ line_clause k.problem (line_of line)

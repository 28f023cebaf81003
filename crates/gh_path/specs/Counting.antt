-- How many conditions there are from a node on, and how long their paths are, read off the text.
use Rattle.std.specs.Prelude.{ℕ, ◌+◌, min, max, List, [], ◌∷◌}
use Rattle.gh_ast.specs.declared.Expr.{Expr}
use Rattle.gh_ast.specs.declared.Expr.TheVariants.{Plain, Read}
use Rattle.gh_ast.specs.Plain.{Cond, compare, negation, conjunction, disjunction, Conds, no_conds, cond_first}
use Rattle.gh_ast.specs.Plain.{Statement, set, new, write, free, call, if, while, return, Statements, no_statements}
use Rattle.gh_ast.specs.Plain.{statement_first}
use Rattle.gh_ast.specs.Plain.{Procedure}
use Rattle.gh_ast.specs.Programs.{body_statements}
use Rattle.gh_path.specs.Admitted.{most_conditions, most_steps}
use Rattle.gh_path.specs.Graphs.{Graph, dead_end, ends, moves, guarded, fork, While, loops_of}
use Rattle.gh_path.specs.declared.ahead.PathCounts.{PathCounts}

-- `count` is counted up to one past its limit; `reach` is one more than the steps of the longest path, up to two past
-- the
-- limit on these, and 0 where there is none
abbrev pub nothing : PathCounts
nothing = record { count = 0; reach = 0 }

abbrev pub one_end : PathCounts
one_end = record { count = 1; reach = 1 }

abbrev pub stepped : PathCounts → PathCounts
stepped a = record { count = a.count; reach = min (a.reach + min a.reach 1) (most_steps + 2) }

abbrev pub checked : PathCounts → PathCounts
checked a = record { count = min (a.count + 1) (most_conditions + 1); reach = max a.reach 1 }

abbrev pub either : PathCounts → PathCounts → PathCounts
either a b = record { count = min (a.count + b.count) (most_conditions + 1); reach = max a.reach b.reach }

-- what lies ahead of a node
abbrev pub ahead : Graph → PathCounts
ahead dead_end = nothing
ahead (ends c) = one_end
ahead (moves p g) = stepped (ahead g)
ahead (guarded c p g) = checked (stepped (ahead g))
ahead (fork l e r g k) = either (stepped (ahead g)) (stepped (ahead k))

-- the same for a part of a text, by what lies ahead after it
abbrev pub before_read : Expr → PathCounts → PathCounts
before_read (Plain o) a = a
before_read (Read o) a = checked (stepped a)

abbrev pub before_reads : List Expr → PathCounts → PathCounts
before_reads [] a = a
before_reads (e ∷ es) a = before_read e (before_reads es a)

abbrev mutual
  pub before_cond : Cond → PathCounts → PathCounts → PathCounts
  before_cond (compare l e r) a b = before_read l (before_read r (either (stepped a) (stepped b)))
  before_cond (negation t) a b = before_cond t b a
  before_cond (conjunction ts) a b = before_all ts a b
  before_cond (disjunction ts) a b = before_some ts a b

  pub before_all : Conds → PathCounts → PathCounts → PathCounts
  before_all no_conds a b = a
  before_all (cond_first t ts) a b = before_cond t (before_all ts a b) b

  pub before_some : Conds → PathCounts → PathCounts → PathCounts
  before_some no_conds a b = b
  before_some (cond_first t ts) a b = before_cond t a (before_some ts a b)

abbrev mutual
  pub before : Statement → PathCounts → PathCounts
  before (set x e) a = before_read e (stepped a)
  before (new x) a = stepped a
  before (write x e) a = before_read e (checked (stepped (stepped a)))
  before (free x) a = checked (stepped (stepped a))
  before (call xs f es) a = before_reads es (checked (stepped a))
  before (if t b c d e) a = before_cond t (before_block b a) (before_block d a)
  before (while at t i body close) a = checked (stepped (before_cond t nothing a))
  before (return at es) a = before_reads es (stepped one_end)

  pub before_block : Statements → PathCounts → PathCounts
  before_block no_statements a = a
  before_block (statement_first s ss) a = before s (before_block ss a)

-- from the entry of a procedure, once around a loop, and from all starts
abbrev pub entry_ahead : Procedure → PathCounts
entry_ahead p = before_block (body_statements p) one_end

abbrev pub loop_ahead : While → PathCounts
loop_ahead l = before_cond l.test (before_block l.body one_end) nothing

abbrev pub loops_ahead : List While → PathCounts
loops_ahead [] = nothing
loops_ahead (l ∷ ls) = either (loop_ahead l) (loops_ahead ls)

abbrev pub procedure_ahead : Procedure → PathCounts
procedure_ahead p = either (entry_ahead p) (loops_ahead (loops_of p))

-- the conditions of several procedures together
abbrev pub all_counts : List PathCounts → ℕ
all_counts [] = 0
all_counts (a ∷ rest) = a.count + all_counts rest

-- The conditions of a program, in order.
use Rattle.std.specs.Prelude.{◌≡◌, ◌⊎◌, ℕ, suc, ◌-◌, ◌<◌, ◌≤◌, List, [], ◌∷◌, ◌++◌, length, map, Some, slice_get, All}
use Rattle.std.specs.Prelude.{Contains}
use Rattle.gh_ast.specs.Plain.{Procedure, Program}
use Rattle.gh_path.specs.Graphs.{Start, at_entry, at_loop, starts, PathStep, call_step, while_step, Check, callee_entry}
use Rattle.gh_path.specs.Graphs.{loop_entry, loop_end, graph_from, HasLoop, IsProcedureAt, HasProcedure}
use Rattle.gh_path.specs.Paths.{Path, Way, ways}

-- a start of a procedure and a way from it
pub record Course : Type 0 where
  pub start : Start
  pub way : Way

abbrev pub course : Start → Way → Course
course a w = record { start = a; way = w }

-- by start, then in the order of paths
abbrev pub from_starts : Program → Procedure → List Start → List Course
from_starts P proc [] = []
from_starts P proc (a ∷ rest) = map (course a) (ways (graph_from P proc a)) ++ from_starts P proc rest

abbrev pub courses_of : Program → Procedure → List Course
courses_of P proc = from_starts P proc (starts proc)

-- a way from a start of the procedure of a number to a check
pub record Condition : Type 0 where
  pub procedure : ℕ
  pub start : Start
  pub way : Way

abbrev pub condition : ℕ → Course → Condition
condition n c = record { procedure = n; start = c.start; way = c.way }

-- those of some procedures, numbered from n
abbrev pub from_procedures : Program → ℕ → List Procedure → List Condition
from_procedures P n [] = []
from_procedures P n (proc ∷ rest) = map (condition n) (courses_of P proc) ++ from_procedures P (suc n) rest

-- by procedure, then by start, then in the order of paths: the first is number 1
abbrev pub conditions : Program → List Condition
conditions P = from_procedures P 0 P.procedures

-- the condition of a number, from 1
abbrev pub IsConditionAt : Program → ℕ → Condition → Type 0
IsConditionAt P n c = (1 ≤ n) × (slice_get (conditions P) (n - 1) ≡ Some c)

-- no condition has the number: it is 0 or above the count
abbrev pub IsNoNumber : Program → ℕ → Type 0
IsNoNumber P n = (n ≡ 0) ⊎ (length (conditions P) < n)

-- the procedure that a condition is of
abbrev pub IsOf : Program → Condition → Procedure → Type 0
IsOf P c proc = IsProcedureAt P c.procedure proc

-- the numbers of a start, a step and a check are those of a loop of the procedure, or of a procedure of the program
abbrev pub StartIsThere : Procedure → Start → Type 0
StartIsThere p at_entry = Unit {0}
StartIsThere p (at_loop n) = HasLoop p n

abbrev pub StepIsThere : Program → Procedure → PathStep → Type 0
StepIsThere P proc (call_step xs n es) = HasProcedure P n
StepIsThere P proc (while_step n) = HasLoop proc n
StepIsThere P proc s = Unit {0}

abbrev pub CheckIsThere : Program → Procedure → Check → Type 0
CheckIsThere P proc (callee_entry at n es) = HasProcedure P n
CheckIsThere P proc (loop_entry at n) = HasLoop proc n
CheckIsThere P proc (loop_end at n) = HasLoop proc n
CheckIsThere P proc c = Unit {0}

-- all numbers of a condition of the procedure proc are there
pub record IsThere (P : Program) (proc : Procedure) (c : Condition) : Type 0 where
  pub start : StartIsThere proc c.start
  pub steps : All (StepIsThere P proc) c.way.steps
  pub check : CheckIsThere P proc c.way.check

-- a path from one of the starts of one of the procedures
pub record IsCondition (P : Program) (c : Condition) : Type 0 where
  pub procedure : Procedure
  pub of : IsOf P c procedure
  pub begins : Contains (starts procedure) c.start
  pub leads : Path (graph_from P procedure c.start) c.way.steps c.way.check

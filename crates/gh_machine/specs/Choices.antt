-- What a step may choose.
use Rattle.std.specs.Prelude.{◌≡◌, ℕ, Contains}
use Rattle.std.specs.FinMap.{insert}
use Rattle.gh_ast.specs.Plain.{new, call, Statements, statement_first, Program}
use Rattle.gh_ast.specs.Programs.{Name, parameters_of}
use Rattle.gh_assert.specs.Meaning.{Store}
use Rattle.gh_machine.specs.Machine.{Config, Step}

-- the location and the content of a new cell, and what a called procedure's results and locals begin with
pub record Choice : Type 0 where
  pub location : ℕ
  pub content : ℕ
  pub starts : Store

-- from c to d the first statement of the rest follows the choice; only `new` and calls have something to choose
abbrev pub Follows : Choice → Statements → Config → Config → Type 0
Follows choice (statement_first (new x) rest) c d = d.heap ≡ insert c.heap choice.location choice.content
Follows choice (statement_first (call xs f es) rest) c d =
    (y : Name) → (Contains (parameters_of d.top.procedure) y → ⊥) → d.top.store y ≡ choice.starts y
Follows choice rest c d = Unit {0}

-- the step under the choice
abbrev pub StepBy : Program → Choice → Config → Config → Type 0
StepBy P choice c d = Step P c d × Follows choice c.top.rest c d

-- A condition as the code keeps it, and its plain form (`condition_of`).
use Rattle.std.specs.Prelude.{map, Contains}
use Rattle.gh_base.specs.declared.place.Span.{Span}
use Rattle.gh_ast.specs.Plain.{Procedure, Program}
use Rattle.gh_path.specs.Graphs.{Check, access, callee_entry, loop_entry, return_check, loop_end, PathStep, access_step}
use Rattle.gh_path.specs.Graphs.{assume_step, set_step, new_step, write_step, free_step, call_step, while_step}
use Rattle.gh_path.specs.Graphs.{return_step, Start, at_entry, at_loop}
use Rattle.gh_path.specs.Conditions.{Condition, conditions, IsOf, IsThere}
use Rattle.gh_path.specs.declared.condition.PathStep as kept_step
use Rattle.gh_path.specs.declared.condition.PathStep.TheVariants as step
use Rattle.gh_path.specs.declared.condition.Start as kept_start
use Rattle.gh_path.specs.declared.condition.Start.TheVariants as start
use Rattle.gh_path.specs.declared.condition.CheckKind as kept_kind
use Rattle.gh_path.specs.declared.condition.CheckKind.TheVariants as kind
use Rattle.gh_path.specs.declared.condition.Check as kept_check
use Rattle.gh_path.specs.declared.condition.Condition as kept_condition

abbrev pub step_of : kept_step.PathStep → PathStep
step_of (step.Access x) = access_step x
step_of (step.Assume l e r) = assume_step l e r
step_of (step.Set x e) = set_step x e
step_of (step.Write x e) = write_step x e
step_of (step.New x) = new_step x
step_of (step.Free x) = free_step x
step_of (step.Call xs n es) = call_step xs.items n es.items
step_of (step.Loop n) = while_step n
step_of (step.Return es) = return_step es.items

abbrev pub start_of : kept_start.Start → Start
start_of start.Entry = at_entry
start_of (start.Loop n) = at_loop n

-- what is asked at a place
abbrev pub asked_at : kept_kind.CheckKind → Span → Check
asked_at (kind.Access x) at = access (record { name = x; span = at })
asked_at (kind.CalleeEntry n es) at = callee_entry at n es.items
asked_at (kind.LoopEntry n) at = loop_entry at n
asked_at kind.Return at = return_check at
asked_at (kind.LoopEnd n) at = loop_end at n

abbrev pub check_of : kept_check.Check → Check
check_of k = asked_at k.kind k.span

abbrev pub condition_of : kept_condition.Condition → Condition
condition_of r = record {
  procedure = r.procedure;
  start = start_of r.start;
  way = record { steps = map step_of r.steps.items; check = check_of r.check };
}

-- the condition that is kept is one of the program's
abbrev pub IsOne : Program → kept_condition.Condition → Type 0
IsOne P r = Contains (conditions P) (condition_of r)

-- Q holds of the plain form of a condition that is kept, and of the procedure that it is of, where there is one
abbrev pub HoldsFor : Program → kept_condition.Condition → (Program → Procedure → Condition → Type 0) → Type 0
HoldsFor P r Q = (proc : Procedure) → IsOf P (condition_of r) proc → Q P proc (condition_of r)

-- the condition that is kept is well scoped: it is of one of the program's procedures, and all its numbers are there.
-- Each condition that a typed program has (`IsOne`) is, by `numbers_are_there`
abbrev pub IsScoped : Program → kept_condition.Condition → Type 0
IsScoped P r = (proc : Procedure) × IsOf P (condition_of r) proc × IsThere P proc (condition_of r)

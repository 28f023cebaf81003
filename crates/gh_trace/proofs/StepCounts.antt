-- A condition is one of its procedure, so those of an admitted program have few steps.
use Rattle.std.specs.Prelude.{ℕ, ◌-◌, ◌<◌, ◌≤◌, length, Some, Any, Contains, slice_get}
use Rattle.std.proofs.Common.{subst, inl, inr}
use Rattle.std.proofs.lemmas.List.{length-map}
use Rattle.gh_base.proofs.ListLemmas.{over_or}
use Rattle.gh_ast.specs.Plain.{Procedure, Program}
use Rattle.gh_ast.proofs.Lists.{one_value}
use Rattle.gh_ast.proofs.Sites.{any_of}
use Rattle.gh_path.specs.Admitted.{IsAdmitted, most_steps, NoneHas}
use Rattle.gh_path.specs.Answers.{IsNumbered}
use Rattle.gh_path.specs.Conditions.{Condition, Course, course, courses_of, IsCondition, IsOf}
use Rattle.gh_path.specs.Kept.{condition_of, step_of}
use Rattle.gh_path.specs.declared.condition.Condition as kept
use Rattle.gh_path.proofs.Listed.{course_there}
use Rattle.gh_trace.proofs.FirstRefuted.{placed}
use Rattle.gh_trace.proofs.Insides.{contained_at}

-- a condition of a procedure goes one of its courses
pub among : (P : Program) (proc : Procedure) (c : Condition) → IsCondition P c → IsOf P c proc
    → Contains (courses_of P proc) (course c.start c.way)
among P proc c is of =
    subst (λ q. Contains (courses_of P q) (course c.start c.way))
    (one_value (slice_get P.procedures c.procedure) is.procedure proc is.of of)
    (course_there P is.procedure c.start c.way is.begins is.leads)

-- no condition has a property that no procedure has a condition with
pub none_passes : (P : Program) (Q : Procedure → Course → Type 0) (proc : Procedure) (c : Condition) → IsCondition P c
    → IsOf P c proc → NoneHas P (λ q. Any (Q q) (courses_of P q)) → Q proc (course c.start c.way) → ⊥
none_passes P Q proc c is of none holds =
    none proc (contained_at P.procedures c.procedure proc of)
    (any_of (Q proc) (courses_of P proc) (course c.start c.way) (among P proc c is of) holds)

-- a condition of an admitted program has few steps
pub few_steps : (P : Program) (n : ℕ) (r : kept.Condition) → IsAdmitted P → IsNumbered P n (Some r)
    → length r.steps.items ≤ most_steps
few_steps P n r admitted (low, there) =
    let c : Condition = condition_of r in
    let is : IsCondition P c = placed P (n - 1) c there in
    let short : length c.way.steps ≤ most_steps = elim (over_or most_steps (length c.way.steps)) [
      | inl many ↦ absurd (none_passes P (λ proc d. most_steps < length d.way.steps) is.procedure c is is.of
          admitted.steps many)
      | inr few ↦ few
    ] in
    subst (λ z. z ≤ most_steps) (length-map r.steps.items step_of) short

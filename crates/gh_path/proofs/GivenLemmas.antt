-- What an item of a walk says of the list of conditions.
use Rattle.std.specs.Prelude.{◌≡◌, ℕ, suc, ◌+◌, ◌-◌, ◌<◌, length, drop, Some, None, Ok, slice_get, Bool, true, false}
use Rattle.std.proofs.Common.{sym, ◌∙◌, ap, subst, arith}
use Rattle.std.proofs.lemmas.List.{length-drop}
use Rattle.std.specs.declared.alloc.AllocError.{AllocError}
use Rattle.std.specs.declared.result.Result.{Result}
use Rattle.gh_ast.specs.Plain.{Program}
use Rattle.gh_path.specs.Answers.{IsNumbered}
use Rattle.gh_path.specs.Conditions.{Condition, conditions}
use Rattle.gh_path.specs.Kept.{condition_of}
use Rattle.gh_path.specs.Walks.{IsWalkBefore, IsGiven, Lends}
use Rattle.gh_path.specs.declared.condition.Condition as kept
use Rattle.gh_path.specs.declared.walk.Walk.{Walk}
use Rattle.gh_path.proofs.ListLemmas.{first_of, rest_of}

-- the k-th item is the condition of number k + 1
pub given_next : (P : Program) (s t : Walk) (k : ℕ) (r : kept.Condition) → IsWalkBefore P s (drop k (conditions P))
    → IsGiven s (Some (Ok r)) t →
    IsNumbered P (k + 1) (Some r) × IsWalkBefore P t (drop (k + 1) (conditions P))
given_next P s t k r before given =
    let item = given P (drop k (conditions P)) before in
    let c : Condition = condition_of r in
    let place : k ≡ k + 1 - 1 = omega arith in
    let at : slice_get (conditions P) k ≡ Some c = first_of (conditions P) k c item.0 item.1 in
    let more : suc k ≡ k + 1 = omega arith in (
      (omega arith, ap (slice_get (conditions P)) (sym place) ∙ at),
      subst (IsWalkBefore P t) (rest_of (conditions P) k c item.0 item.1 ∙ ap (λ n. drop n (conditions P)) more) item.2,
    )

-- an item comes as long as there are conditions
pub given_none : (P : Program) (s t : Walk) (k : ℕ) → IsWalkBefore P s (drop k (conditions P))
    → k < length (conditions P) → IsGiven s None t → ⊥
given_none P s t k before less given =
    let item = given P (drop k (conditions P)) before in
    let empty : length (drop k (conditions P)) ≡ 0 = ap length item.1.0 in
    omega (arith, empty, length-drop k (conditions P), less)

-- a condition is lent: it is the one at the place k, and those after it are still to come
lent_next : (P : Program) (s t : Walk) (k : ℕ) (o : Result Bool AllocError) (more : Bool) → o ≡ Ok more → more ≡ true
    → IsWalkBefore P s (drop k (conditions P)) → Lends s o t →
    IsNumbered P (k + 1) (Some t.condition) × IsWalkBefore P t (drop (k + 1) (conditions P))
lent_next P s t k o more was is before came =
    let lends : Lends s (Ok more) t = subst (λ (q : Result Bool AllocError). Lends s q t) was came in
    given_next P s t k t.condition before (subst (λ (b : Bool). Lends s (Ok b) t) is lends)

pub lent_one : (P : Program) (s t : Walk) (k : ℕ) (o : Result Bool AllocError) (more : Bool) (r : kept.Condition)
    → o ≡ Ok more → more ≡ true → r ≡ t.condition →
    IsWalkBefore P s (drop k (conditions P)) → Lends s o t → IsNumbered P (k + 1) (Some r)
lent_one P s t k o more r was is same before came =
    let next = lent_next P s t k o more was is before came in
    subst (λ (q : kept.Condition). IsNumbered P (k + 1) (Some q)) (sym same) next.0

pub lent_on : (P : Program) (s t : Walk) (k : ℕ) (o : Result Bool AllocError) (more : Bool) → o ≡ Ok more → more ≡ true
    → IsWalkBefore P s (drop k (conditions P)) → Lends s o t →
    IsWalkBefore P t (drop (k + 1) (conditions P))
lent_on P s t k o more was is before came = (lent_next P s t k o more was is before came).1

-- one is lent as long as there are conditions
pub lent_none : (P : Program) (s t : Walk) (k : ℕ) (o : Result Bool AllocError) (more : Bool) → o ≡ Ok more
    → more ≡ false → IsWalkBefore P s (drop k (conditions P)) → k < length (conditions P) →
    Lends s o t → ⊥
lent_none P s t k o more was is before less came =
    let lends : Lends s (Ok more) t = subst (λ (q : Result Bool AllocError). Lends s q t) was came in
    given_none P s t k before less (subst (λ (b : Bool). Lends s (Ok b) t) is lends)

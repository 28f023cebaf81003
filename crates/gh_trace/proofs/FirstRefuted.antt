-- Conditions by their numbers, and the first that isn't valid.
use Rattle.std.specs.Prelude.{◌≡◌, ℕ, zero, suc, ◌+◌, ◌-◌, ◌≤◌, List, [], ◌∷◌, ◌++◌, length, take, drop, slice_get}
use Rattle.std.specs.Prelude.{Some, None, Contains}
use Rattle.std.proofs.Common.{refl, sym, ◌∙◌, ap, subst, inl, inr, arith}
use Rattle.std.proofs.lemmas.Option.{slice_get_within, get_or_from_slice_get}
use Rattle.gh_ast.specs.Plain.{Procedure, Program}
use Rattle.gh_ast.specs.Rules.{IsTyped}
use Rattle.gh_ast.proofs.Lists.{one_value, not_both}
use Rattle.gh_path.specs.Answers.{IsNumbered}
use Rattle.gh_path.specs.Conditions.{Condition, conditions, IsCondition, IsOf, IsThere}
use Rattle.gh_path.specs.Kept.{condition_of, IsOne}
use Rattle.gh_path.specs.declared.condition.Condition as kept
use Rattle.gh_path.proofs.Listed.{all_are_listed}
use Rattle.gh_path.proofs.Numbers.{numbers_are_there}
use Rattle.gh_trace.specs.Kept.{drawn_of, HasNoCounterexample}
use Rattle.gh_trace.specs.Refuted.{ShowsFirst}
use Rattle.gh_trace.specs.Replay.{IsDrawnCounterexample}
use Rattle.gh_trace.specs.Validity.{IsConditionValid}
use Rattle.gh_trace.specs.declared.state.Trace.{Trace}

-- lists by their members

pub taken_more : {X : Type 0} (xs : List X) (n : ℕ) (x : X) → slice_get xs n ≡ Some x
    → take (suc n) xs ≡ take n xs ++ x ∷ []
taken_more [] n x there = absurd cc
taken_more (y ∷ ys) zero x there = let same : y ≡ x = cc in ap (λ e. e ∷ []) same
taken_more (y ∷ ys) (suc n) x there = ap (λ t. y ∷ t) (taken_more ys n x there)

pub taken_length : {X : Type 0} (xs : List X) (n : ℕ) (x : X) → slice_get xs n ≡ Some x → length (take n xs) ≡ n
taken_length [] n x there = absurd cc
taken_length (y ∷ ys) zero x there = refl
taken_length (y ∷ ys) (suc n) x there = ap suc (taken_length ys n x there)

-- the member at a place stands between those before and those after it
pub parted : {X : Type 0} (xs : List X) (n : ℕ) (x : X) → slice_get xs n ≡ Some x
    → xs ≡ take n xs ++ x ∷ drop (suc n) xs
parted [] n x there = absurd cc
parted (y ∷ ys) zero x there = let same : y ≡ x = cc in ap (λ e. e ∷ ys) same
parted (y ∷ ys) (suc n) x there = ap (λ t. y ∷ t) (parted ys n x there)

at_seam : {X : Type 0} (before : List X) (x : X) (after : List X)
    → slice_get (before ++ x ∷ after) (length before) ≡ Some x
at_seam [] x after = refl
at_seam (y ∷ before) x after = at_seam before x after

-- conditions by their numbers

-- the condition at a place is one of the program's
pub listed_at : (P : Program) (k : ℕ) (c : Condition) → slice_get (conditions P) k ≡ Some c → Contains (conditions P) c
listed_at P k c at = (k, slice_get_within (conditions P) k c at, get_or_from_slice_get (conditions P) k c c at)

pub placed : (P : Program) (k : ℕ) (c : Condition) → slice_get (conditions P) k ≡ Some c → IsCondition P c
placed P k c at = (all_are_listed P c).0 (listed_at P k c at)

-- the condition of the next number
pub next_one : (P : Program) (k : ℕ) (r : kept.Condition) → IsNumbered P (k + 1) (Some r)
    → slice_get (conditions P) k ≡ Some (condition_of r)
next_one P k r (low, there) = let place : k ≡ k + 1 - 1 = omega arith in ap (slice_get (conditions P)) place ∙ there

pub is_one : (P : Program) (k : ℕ) (r : kept.Condition) → IsNumbered P (k + 1) (Some r) → IsOne P r
is_one P k r found = listed_at P k (condition_of r) (next_one P k r found)

-- the condition of any number
pub numbered_one : (P : Program) (n : ℕ) (r : kept.Condition) → IsNumbered P n (Some r) → IsOne P r
numbered_one P n r (low, there) = listed_at P (n - 1) (condition_of r) there

-- it is a path of one of the procedures
pub condition_one : (P : Program) (r : kept.Condition) → IsOne P r → IsCondition P (condition_of r)
condition_one P r one = (all_are_listed P (condition_of r)).0 one

-- its procedure stands at its number
pub has_procedure : (P : Program) (r : kept.Condition) → IsOne P r → slice_get P.procedures r.procedure ≡ None → ⊥
has_procedure P r one none = let is = condition_one P r one in
    not_both (slice_get P.procedures r.procedure) is.procedure is.of none

-- and all its numbers are there
pub is_there : (P : Program) (proc : Procedure) (r : kept.Condition) → IsTyped P → IsOne P r
    → IsOf P (condition_of r) proc → IsThere P proc (condition_of r)
is_there P proc r typed one of = numbers_are_there P (condition_of r) proc typed (condition_one P r one) of

-- the first that isn't valid

-- the next condition is refuted, after valid ones
pub next_refuted : (P : Program) (k : ℕ) (r : kept.Condition) (t : Trace) → IsNumbered P (k + 1) (Some r)
    → IsDrawnCounterexample P (condition_of r) (drawn_of t) →
    ((d : Condition) → Contains (take k (conditions P)) d → IsConditionValid P d) → ShowsFirst P (k + 1) t
next_refuted P k r t found against valid =
    let c : Condition = condition_of r in
    let at : slice_get (conditions P) k ≡ Some c = next_one P k r found in
    record {
      before = take k (conditions P);
      condition = c;
      after = drop (suc k) (conditions P);
      whole = parted (conditions P) k c at;
      number_is = ap (λ n. n + 1) (sym (taken_length (conditions P) k c at));
      valid = valid;
      refutes = against;
    }

pub first_at : (P : Program) (k : ℕ) (t : Trace) → (f : ShowsFirst P k t)
    → slice_get (conditions P) (k - 1) ≡ Some f.condition
first_at P k t f =
    let place : k - 1 ≡ length f.before = omega (arith, f.number_is) in
    rw (f.whole, place) (at_seam f.before f.condition f.after)

pub first_low : (P : Program) (k : ℕ) (t : Trace) → ShowsFirst P k t → 1 ≤ k
first_low P k t f = omega (arith, f.number_is)

pub first_there : (P : Program) (k : ℕ) (t : Trace) → ShowsFirst P k t → IsNumbered P k None → ⊥
first_there P k t f (inl none) = omega (arith, none, f.number_is)
first_there P k t f (inr past) =
    omega (arith, past, f.number_is, slice_get_within (conditions P) (k - 1) f.condition (first_at P k t f))

-- the condition that is kept is the first that isn't valid
pub kept_first : (P : Program) (k : ℕ) (t : Trace) (r : kept.Condition) → (f : ShowsFirst P k t)
    → IsNumbered P k (Some r) → condition_of r ≡ f.condition
kept_first P k t r f (low, there) =
    one_value (slice_get (conditions P) (k - 1)) (condition_of r) f.condition there (first_at P k t f)

pub first_one : (P : Program) (k : ℕ) (t : Trace) (r : kept.Condition) → ShowsFirst P k t → IsNumbered P k (Some r)
    → IsOne P r
first_one P k t r f n = numbered_one P k r n

pub never_valid : (P : Program) (k : ℕ) (t : Trace) (r : kept.Condition) → ShowsFirst P k t → IsNumbered P k (Some r)
    → HasNoCounterexample P r → ⊥
never_valid P k t r f n valid =
    let against : IsDrawnCounterexample P (condition_of r) (drawn_of t) =
    subst (λ c. IsDrawnCounterexample P c (drawn_of t)) (sym (kept_first P k t r f n)) f.refutes in
    valid against.procedure against.of against.first.state _ against.counterexample

-- another counterexample of that condition shows it too
pub still_first : (P : Program) (k : ℕ) (t u : Trace) → (f : ShowsFirst P k t) → IsDrawnCounterexample P f.condition (drawn_of u)
    → ShowsFirst P k u
still_first P k t u f refutes = record {
  before = f.before;
  condition = f.condition;
  after = f.after;
  whole = f.whole;
  number_is = f.number_is;
  valid = f.valid;
  refutes = refutes;
}

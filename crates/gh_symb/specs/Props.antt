-- The facts on the terms and versions of a condition have one proof at most.
use Rattle.std.specs.Prelude.{ℕ, List, [], ◌∷◌, length, slice_index_or}
use mathlib.Core.HLevel.{Π_prop}
use native.Mathlib.Bridge.{le_prop}
use native.Mathlib.Nat.{ℕ_set}
use Rattle.gh_path.specs.Terms.{Kind}
use Rattle.gh_symb.specs.Symbolic as plain
use Rattle.gh_symb.specs.Symbolic.{access_step, assume_step, same_step, write_step, new_step, free_step, part_step}
use Rattle.gh_symb.specs.Symbolic.{access, sub, whole}
use Rattle.gh_symb.specs.Formulas.{version_after}
use Rattle.gh_symb.specs.Inside.{IsUnderInside, AllAreInside, IsStepInside, AreStepsInside, IsCheckInside, AreKinds}
use Rattle.gh_symb.specs.Inside.{IsInside}

IsUnderInside-prop : (n v : ℕ) (u : plain.Under) → IsProp (IsUnderInside n v u)
IsUnderInside-prop n v u p q = λ i. record {
  version = le_prop p.version q.version i;
  terms = Π_prop (λ x. le_prop) p.terms q.terms i;
}

AllAreInside-prop : (n v : ℕ) (us : List plain.Under) → IsProp (AllAreInside n v us)
AllAreInside-prop n v us = Π_prop (λ k. Π_prop (λ d. Π_prop (λ within. IsUnderInside-prop n v (slice_index_or us k d))))

IsStepInside-prop : (n v i : ℕ) (s : plain.TermStep) → IsProp (IsStepInside n v i s)
IsStepInside-prop n v i (access_step x) p q = λ j. (le_prop p.0 q.0 j, le_prop p.1 q.1 j)
IsStepInside-prop n v i (assume_step l e r) p q = λ j. (le_prop p.0 q.0 j, le_prop p.1 q.1 j)
IsStepInside-prop n v i same_step p q = λ j. tt
IsStepInside-prop n v i (write_step x e) p q = λ j. (le_prop p.0 q.0 j, le_prop p.1 q.1 j, le_prop p.2 q.2 j)
IsStepInside-prop n v i (new_step l c) p q = λ j. (le_prop p.0 q.0 j, le_prop p.1 q.1 j, le_prop p.2 q.2 j)
IsStepInside-prop n v i (free_step x) p q = λ j. (le_prop p.0 q.0 j, le_prop p.1 q.1 j)
IsStepInside-prop n v i (part_step u us) p q =
    λ j. (IsUnderInside-prop n v u p.0 q.0 j, AllAreInside-prop n v us p.1 q.1 j, le_prop p.2 q.2 j)

AreStepsInside-prop : (n v i : ℕ) (ss : List plain.TermStep) → IsProp (AreStepsInside n v i ss)
AreStepsInside-prop n v i [] p q = λ j. tt
AreStepsInside-prop n v i (s ∷ ss) p q =
    λ j. (IsStepInside-prop n v i s p.0 q.0 j, AreStepsInside-prop n v (version_after i s) ss p.1 q.1 j)

IsCheckInside-prop : (n v : ℕ) (k : plain.TermCheck) → IsProp (IsCheckInside n v k)
IsCheckInside-prop n v (access x) = le_prop
IsCheckInside-prop n v (sub u) = IsUnderInside-prop n v u
IsCheckInside-prop n v (whole us) = AllAreInside-prop n v us

AreKinds-prop : (n : ℕ) (ks : List Kind) → IsProp (AreKinds n ks)
AreKinds-prop n ks p q = λ i. record {
  terms = ℕ_set n (length ks) p.terms q.terms i;
  some = le_prop p.some q.some i;
  successors = Π_prop (λ t. Π_prop (λ j. Π_prop (λ x. Π_prop (λ e. le_prop)))) p.successors q.successors i;
}

pub IsInside-prop : (ks : List Kind) (v : ℕ) (start : plain.Under) (steps : List plain.TermStep)
    (check : plain.TermCheck) → IsProp (IsInside ks v start steps check)
IsInside-prop ks v start steps check p q = λ i. record {
  terms = AreKinds-prop (length ks) ks p.terms q.terms i;
  some_versions = le_prop p.some_versions q.some_versions i;
  start_is = IsUnderInside-prop (length ks) v start p.start_is q.start_is i;
  steps_are = AreStepsInside-prop (length ks) v 0 steps p.steps_are q.steps_are i;
  check_is = IsCheckInside-prop (length ks) v check p.check_is q.check_is i;
}

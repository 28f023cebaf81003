-- The parts of conditions over terms as plain values, and that their terms and versions are there.
use Rattle.std.specs.Prelude.{◌≡◌, ℕ, ◌+◌, ◌<◌, ◌≤◌, List, [], ◌∷◌, map, length, slice_get, Some, All}
use Rattle.std.specs.Option.{option_map}
use Rattle.gh_base.specs.declared.atom.Term.{Term}
use Rattle.gh_ast.specs.Plain.{assertion_of}
use Rattle.gh_ast.specs.Programs.{Name}
use Rattle.gh_path.specs.Terms.{Bindings, Kind, null, value, next}
use Rattle.gh_grass.specs.declared.binding.Bond.{Bond}
use Rattle.gh_grass.specs.Bindings.{term_in}
use Rattle.gh_symb.specs.Symbolic as plain
use Rattle.gh_symb.specs.Symbolic.{access_step, assume_step, same_step, write_step, new_step, free_step, part_step}
use Rattle.gh_symb.specs.Symbolic.{access, sub, whole}
use Rattle.gh_symb.specs.Formulas.{variables, version_after}
use Rattle.gh_symb.specs.declared.over_terms.BoundAssertion.{BoundAssertion}
use Rattle.gh_symb.specs.declared.over_terms.TermStep.{TermStep}
use Rattle.gh_symb.specs.declared.over_terms.TermStep.TheVariants as step
use Rattle.gh_symb.specs.declared.over_terms.TermCheck.{TermCheck}
use Rattle.gh_symb.specs.declared.over_terms.TermCheck.TheVariants as check

abbrev pub binding_of : List Bond → Bindings
binding_of bonds x = option_map (λ (t : Term). t.0) (term_in bonds x)

abbrev pub under_of : BoundAssertion → plain.Under
under_of b = record { assertion = assertion_of b.assertion.now; binding = binding_of b.binding; version = b.version }

abbrev pub step_of : TermStep → plain.TermStep
step_of (step.Access x) = access_step x.0
step_of (step.Assume l e r) = assume_step l.0 e r.0
step_of step.Same = same_step
step_of (step.Write x e) = write_step x.0 e.0
step_of (step.New l k) = new_step l.0 k.0
step_of (step.Free x) = free_step x.0
step_of (step.Part b a) = part_step (under_of b) (map under_of a.items)

abbrev pub check_of : TermCheck → plain.TermCheck
check_of (check.Access x) = access x.0
check_of (check.Sub b) = sub (under_of b)
check_of (check.Whole bs) = whole (map under_of bs.items)

-- the version is one of some versions, and the terms of the variables are some of n terms
pub record IsUnderInside (n versions : ℕ) (u : plain.Under) : Type 0 where
  pub version : u.version < versions
  pub terms : (x : Name) → (variables u.binding x).0 < n

abbrev pub AllAreInside : ℕ → ℕ → List plain.Under → Type 0
AllAreInside n versions us = All (IsUnderInside n versions) us

-- the terms of a step from version i are some of n terms, and its versions some of the versions
abbrev pub IsStepInside : ℕ → ℕ → ℕ → plain.TermStep → Type 0
IsStepInside n versions i (access_step x) = (x < n) × (i < versions)
IsStepInside n versions i (assume_step l e r) = (l < n) × (r < n)
IsStepInside n versions i same_step = Unit {0}
IsStepInside n versions i (write_step x e) = (x < n) × (e < n) × (i + 1 < versions)
IsStepInside n versions i (new_step l c) = (l < n) × (c < n) × (i + 1 < versions)
IsStepInside n versions i (free_step x) = (x < n) × (i + 1 < versions)
IsStepInside n versions i (part_step u us) =
    IsUnderInside n versions u × AllAreInside n versions us × (i + 1 < versions)

-- the steps from version i on
abbrev pub AreStepsInside : ℕ → ℕ → ℕ → List plain.TermStep → Type 0
AreStepsInside n versions i [] = Unit {0}
AreStepsInside n versions i (s ∷ ss) = IsStepInside n versions i s × AreStepsInside n versions (version_after i s) ss

abbrev pub IsCheckInside : ℕ → ℕ → plain.TermCheck → Type 0
IsCheckInside n versions (access x) = x < n
IsCheckInside n versions (sub u) = IsUnderInside n versions u
IsCheckInside n versions (whole us) = AllAreInside n versions us

-- each successor is that of one of n terms, in one of some versions
abbrev pub AreSuccessors : ℕ → ℕ → List Kind → Type 0
AreSuccessors n versions [] = Unit {0}
AreSuccessors n versions (null ∷ ks) = AreSuccessors n versions ks
AreSuccessors n versions (value m ∷ ks) = AreSuccessors n versions ks
AreSuccessors n versions (next i x ∷ ks) = (x < n) × (i < versions) × AreSuccessors n versions ks

-- there are n terms, and each successor in the list is that of one of them
pub record AreKinds (n : ℕ) (kinds : List Kind) : Type 0 where
  pub terms : n ≡ length kinds
  pub some : 1 ≤ n
  pub successors : (t i x : ℕ) → slice_get kinds t ≡ Some (next i x) → x < n

-- the terms and the versions of a condition over terms are there
pub record IsInside (kinds : List Kind) (versions : ℕ) (start : plain.Under) (steps : List plain.TermStep)
    (check : plain.TermCheck) : Type 0 where
  pub terms : AreKinds (length kinds) kinds
  pub some_versions : 1 ≤ versions
  pub start_is : IsUnderInside (length kinds) versions start
  pub steps_are : AreStepsInside (length kinds) versions 0 steps
  pub check_is : IsCheckInside (length kinds) versions check

-- The laws.
use Rattle.std.specs.Prelude.{◌≡◌, ◌↔◌, Bool, cond, Some}
use Rattle.gh_ast.specs.Plain.{Cond, Procedure, Program}
use Rattle.gh_ast.specs.Rules.{IsTyped}
use Rattle.gh_assert.specs.Values.{outcome}
use Rattle.gh_machine.specs.Machine.{IsGood}
use Rattle.gh_path.specs.Graphs.{Graph, tested}
use Rattle.gh_trace.specs.Traces.{State}
use Rattle.gh_trace.specs.Validity.{ListedAreValid}
use Rattle.gh_decide.specs.Rules.{AllKeepRules}
use Rattle.gh_decide.specs.Examples.{alone, cuts, leaks, frees_twice}
use Rattle.gh_decide.specs.Safe.{Safe, PathsPass, AllPass}

-- a state is safe exactly where each path's check is passed
abbrev pub SafeMeansPathsPass : Type 0
SafeMeansPathsPass = (P : Program) (proc : Procedure) (g : Graph) (x : State) → Safe P proc g x ↔ PathsPass P proc g x

-- in a safe state a test has an outcome, and the way that it leads is safe
abbrev pub TestsLead : Type 0
TestsLead =
    (P : Program) (proc : Procedure) (t : Cond) (g k : Graph) (x : State) → Safe P proc (tested t g k) x
    → (way : Bool) × (outcome x.store x.heap t ≡ Some way) × Safe P proc (cond way g k) x

-- a program that keeps the rules is good where each check of each path is passed
abbrev pub Composition : Type 0
Composition = (P : Program) → AllKeepRules P → AllPass P → IsGood P

-- where conditions have no counterexample, their checks are passed
abbrev pub ValidPass : Type 0
ValidPass = (P : Program) → ListedAreValid P → AllPass P

-- a program that keeps the rules is good where each of its conditions is valid
abbrev pub ListedIsGood : Type 0
ListedIsGood = (P : Program) → AllKeepRules P → ListedAreValid P → IsGood P

-- the type rules give what the composition needs
abbrev pub TypedKeepRules : Type 0
TypedKeepRules = (P : Program) → IsTyped P → AllKeepRules P

-- a program that breaks no type rule is good where each of its conditions is valid
abbrev pub TypedIsGood : Type 0
TypedIsGood = (P : Program) → IsTyped P → ListedAreValid P → IsGood P

-- of three small programs one is good, and those that leak or free twice are not
pub record ExamplesHold : Type 0 where
  pub cuts_is_good : IsGood (alone cuts)
  pub leaks_is_not : IsGood (alone leaks) → ⊥
  pub frees_twice_is_not : IsGood (alone frees_twice) → ⊥

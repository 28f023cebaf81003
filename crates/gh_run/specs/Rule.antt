-- Runs under the rule of choice: a new cell stands at the least free place and contains 0, and a callee's results and
-- locals begin with 0.
use Rattle.std.specs.Prelude.{◌≡◌, ◌≢◌, ◌⊎◌, ℕ, suc, ◌<◌, ◌≤◌, List, [], ◌∷◌, length, None}
use Rattle.std.specs.FinMap.{get}
use Rattle.gh_ast.specs.Plain.{Program}
use Rattle.gh_ast.specs.Programs.{Name}
use Rattle.gh_assert.specs.Heaps.{Heap}
use Rattle.gh_assert.specs.Walks.{Allocated}
use Rattle.gh_machine.specs.Machine.{Config, last_of}
use Rattle.gh_machine.specs.Choices.{Choice, StepBy}
use Rattle.gh_machine.specs.Configs.{ReturnsLast}

-- the least place that isn't null and isn't allocated
pub record IsLeastFree (h : Heap) (l : ℕ) : Type 0 where
  pub not_null : l ≢ 0
  pub free : get h l ≡ None
  pub least : (k : ℕ) → k ≢ 0 → k < l → Allocated h k

-- what the rule chooses in a heap
pub record IsByRule (h : Heap) (choice : Choice) : Type 0 where
  pub location : IsLeastFree h choice.location
  pub content : choice.content ≡ 0
  pub starts : (y : Name) → choice.starts y ≡ 0

-- the step under the rule
abbrev pub RuledStep : Program → Config → Config → Type 0
RuledStep P c d = (choice : Choice) × IsByRule c.heap choice × StepBy P choice c d

-- each configuration leads to the next under the rule
abbrev pub IsRuledRun : Program → Config → List Config → Type 0
IsRuledRun P c [] = Unit {0}
IsRuledRun P c (d ∷ ds) = RuledStep P c d × IsRuledRun P d ds

-- the run under the rule, as far as it goes, but at most its first n steps
pub record IsConcreteRun (P : Program) (c : Config) (n : ℕ) (ds : List Config) : Type 0 where
  pub ruled : IsRuledRun P c ds
  pub within : length ds ≤ n
  pub whole : length ds < n → (d : Config) → RuledStep P (last_of c ds) d → ⊥

-- one of the steps is the return of the first activation
abbrev pub SomeReturns : Config → List Config → Type 0
SomeReturns c [] = ⊥
SomeReturns c (d ∷ ds) = ReturnsLast c ⊎ SomeReturns d ds

-- k of the steps are not the return of the first activation
abbrev pub CountsSteps : Config → List Config → ℕ → Type 0
CountsSteps c [] k = k ≡ 0
CountsSteps c (d ∷ ds) k =
    (ReturnsLast c × CountsSteps d ds k) ⊎ ((ReturnsLast c → ⊥) × (m : ℕ) × (k ≡ suc m) × CountsSteps d ds m)

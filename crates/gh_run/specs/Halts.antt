-- Runs that go on, and why they stop.
use Rattle.std.specs.Prelude.{◌≡◌, ◌⊎◌, ℕ, ◌<◌, List, length}
use Rattle.gh_ast.specs.Plain.{Program}
use Rattle.gh_machine.specs.Machine as machine
use Rattle.gh_machine.specs.Machine.{Config, HasEnded, last_of}
use Rattle.gh_machine.specs.Configs.{config_of, ReturnsLast}
use Rattle.gh_machine.specs.declared.config.Config as kept
use Rattle.gh_machine.specs.declared.step.Next.{Next}
use Rattle.gh_machine.specs.declared.step.Next.TheVariants.{Moved, Ended, Fault, NotAChoice}
use Rattle.gh_run.specs.Rule.{RuledStep, IsRuledRun, SomeReturns}
use Rattle.gh_run.specs.declared.rule.Halt.{Halt}
use Rattle.gh_run.specs.declared.rule.Halt.TheVariants as halt

-- the answers of a step under the rule
abbrev pub IsRuledNext : Program → Next → Config → Config → Type 0
IsRuledNext P Moved c d = RuledStep P c d × (ReturnsLast c → ⊥)
IsRuledNext P Ended c d = (HasEnded c × (d ≡ c)) ⊎ (ReturnsLast c × RuledStep P c d)
IsRuledNext P Fault c d = machine.Fault c × (d ≡ c)
IsRuledNext P NotAChoice c d = ⊥

-- the same of configurations as they are kept
abbrev pub LeadsRuled : Program → kept.Config → kept.Config → Next → Type 0
LeadsRuled P c d next = IsRuledNext P next (config_of c) (config_of d)

-- k steps under the rule lead from c to d, and none of them is the return of the first activation
pub record Leads (P : Program) (c : Config) (k : ℕ) (d : Config) : Type 0 where
  pub run : List Config
  pub ruled : IsRuledRun P c run
  pub count : length run ≡ k
  pub last : last_of c run ≡ d
  pub goes_on : SomeReturns c run → ⊥

-- the return of the first activation leads to the configuration
abbrev pub IsReturned : Program → Config → ℕ → Config → Type 0
IsReturned P c k e = (d : Config) × Leads P c k d × ReturnsLast d × RuledStep P d e

-- why at most n steps end in a configuration, after k that count
abbrev pub IsHalted : Program → Config → ℕ → Halt → ℕ → Config → Type 0
IsHalted P c n halt.Stopped k d = (k ≡ n) × Leads P c n d
IsHalted P c n halt.Faulted k d = (k < n) × Leads P c k d × machine.Fault d
IsHalted P c n halt.Ended k d = (k < n) × ((Leads P c k d × HasEnded d) ⊎ IsReturned P c k d)

-- the same of configurations as they are kept
abbrev pub HaltsRuled : Program → kept.Config → ℕ → kept.Config → ℕ × Halt → Type 0
HaltsRuled P c n d r = IsHalted P (config_of c) n r.1 r.0 (config_of d)

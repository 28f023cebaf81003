-- The laws of steps and runs.
use Rattle.std.specs.Prelude.{◌≡◌, ◌⊎◌, List, [], ◌∷◌, ◌++◌, map, Contains}
use Rattle.gh_ast.specs.Plain.{Program}
use Rattle.gh_ast.specs.Rules.{IsTyped}
use Rattle.gh_assert.specs.Heaps.{Heap, Splits}
use Rattle.gh_machine.specs.Machine.{Activation, Config, Step, Fault, HasEnded, IsRun, last_of}
use Rattle.gh_machine.specs.Choices.{Choice, StepBy}
use Rattle.gh_machine.specs.Framed.{holding, IsWithout, AreWithout}
use Rattle.gh_machine.specs.Fits.{ProgramFits, ConfigFits}
use Rattle.gh_machine.specs.Stacks.{onto, IsAtEnd}

-- a step follows some choice, and under one choice there is at most one step
pub record StepsAreChosen : Type 0 where
  pub some_choice : (P : Program) (c d : Config) → Step P c d → (choice : Choice) × StepBy P choice c d
  pub one_step : (P : Program) (choice : Choice) (c d e : Config) → StepBy P choice c d → StepBy P choice c e → d ≡ e

-- a faulting configuration has no step
abbrev pub FaultsStop : Type 0
FaultsStop = (P : Program) (c d : Config) → Fault c → Step P c d → ⊥

-- what has ended has no step
abbrev pub EndsStop : Type 0
EndsStop = (P : Program) (c d : Config) → HasEnded c → Step P c d → ⊥

-- where a part alone has no fault, a step of the whole is a step of the part, and what is beside the part stays
abbrev pub StepsKeepFrames : Type 0
StepsKeepFrames =
    (P : Program) (c d : Config) (part frame : Heap) → Splits c.heap part frame → (Fault (holding c part) → ⊥)
    → Step P c d →
    (k : Heap) × Splits d.heap k frame × Step P (holding c part) (holding d k)

-- a step of a part is one of the whole, as long as the heap after it is apart from the frame: a new cell may not
-- stand in the frame
abbrev pub StepsTakeFrames : Type 0
StepsTakeFrames =
    (P : Program) (b e : Config) (whole after frame : Heap) → Splits whole b.heap frame → Splits after e.heap frame
    → Step P b e → Step P (holding b whole) (holding e after)

-- no run from the configuration comes to a fault
abbrev pub NeverFaults : Program → Config → Type 0
NeverFaults P b = (es : List Config) → IsRun P b es → (e : Config) → Contains (b ∷ es) e → Fault e → ⊥

-- a run beside a frame is a run without it, with the frame untouched
pub record RunsKeepFrames : Type 0 where
  pub off : (P : Program) (frame : Heap) (c b : Config) (ds : List Config) → IsWithout frame c b → NeverFaults P b
      → IsRun P c ds → (es : List Config) × IsRun P b es × AreWithout frame (c ∷ ds) (b ∷ es)
  pub on : (P : Program) (frame : Heap) (c b : Config) (ds es : List Config) → AreWithout frame (c ∷ ds) (b ∷ es)
      → IsRun P b es → IsRun P c ds

-- a program that breaks no type rule fits the rules on counts
abbrev pub TypedFit : Type 0
TypedFit = (P : Program) → IsTyped P → ProgramFits P

-- what fits, fits after a step
abbrev pub StepsFit : Type 0
StepsFit = (P : Program) → ProgramFits P → (c d : Config) → ConfigFits P c → Step P c d → ConfigFits P d

-- where counts agree, a configuration that neither faults nor has ended has a step
abbrev pub RunsGoOn : Type 0
RunsGoOn =
    (P : Program) → ProgramFits P → (c : Config) → ConfigFits P c → (Fault c → ⊥) → (HasEnded c → ⊥)
    → (d : Config) × Step P c d

-- a run over a stack is a run of its top over the rest, until the top ends
pub record RunsKeepStacks : Type 0 where
  pub over : (P : Program) (b : List Activation) (c d : Config) → (IsAtEnd c → ⊥) → Step P c d
      → Step P (onto c b) (onto d b)
  pub under : (P : Program) (b : List Activation) (c e : Config) → (IsAtEnd c → ⊥) → Step P (onto c b) e
      → (d : Config) × Step P c d × (e ≡ onto d b)
  pub runs : (P : Program) (b : List Activation) (c : Config) (es : List Config) → IsRun P (onto c b) es
      → (ds : List Config) × (rest : List Config) × IsRun P c ds × (es ≡ map (λ d. onto d b) ds ++ rest)
      × ((rest ≡ []) ⊎ IsAtEnd (last_of c ds))

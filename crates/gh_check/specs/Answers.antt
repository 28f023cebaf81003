-- What the checker answers.
use Rattle.std.specs.Prelude.{◌≡◌, ◌+◌, ℕ, List}
use Rattle.gh_base.specs.Grounds.{Problem}
use Rattle.gh_log.specs.Lines.{LogLine}
use Rattle.gh_log.specs.Sections.{IsValidSection, IsFirstFault}
use Rattle.gh_check.specs.declared.fault.CheckError.{CheckError}
use Rattle.gh_check.specs.declared.fault.CheckError.TheVariants.{Fault, OutOfMemory}

-- the first fault of a section whose first line has this number in the file
abbrev pub IsSectionError : Problem → ℕ → List LogLine → CheckError → Type 0
IsSectionError p first lines (Fault f) = (place : ℕ) × IsFirstFault p lines f.number place × (f.line ≡ first + place)
IsSectionError p first lines OutOfMemory = Unit {0}

-- a valid section has no first fault
abbrev pub AreApart : Type 0
AreApart =
    (p : Problem) (lines : List LogLine) (number place : ℕ) → IsValidSection p lines
    → IsFirstFault p lines number place → ⊥

-- a section has one first fault at most
abbrev pub AreOne : Type 0
AreOne =
    (p : Problem) (lines : List LogLine) (n i m j : ℕ) → IsFirstFault p lines n i → IsFirstFault p lines m j
    → (n ≡ m) × (i ≡ j)

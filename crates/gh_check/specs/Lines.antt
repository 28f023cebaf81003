-- The check of one line.
use Rattle.std.specs.Prelude.{◌≡◌, ⊤, List, [], ◌∷◌, ◌++◌, Some}
use Rattle.gh_base.specs.Grounds.{Problem}
use Rattle.gh_log.specs.Lines.{LogLine}
use Rattle.gh_log.specs.Sections.{IsOfKind, IsFaultOf, line_clause}
use Rattle.gh_base.specs.declared.sizes.Sizes.{Sizes}
use Rattle.gh_check.specs.Kept.{Kept, next_line, with_line, AreLinesKept, IsWithin, AreWithin}
use Rattle.gh_check.specs.Assuming.{IsBehind}
use Rattle.gh_check.specs.RootUnits.{AreRootUnitsOf}
use Rattle.gh_check.specs.Names.{fault_number}
use Rattle.gh_check.specs.declared.lines.Earlier.{Earlier}
use Rattle.gh_check.specs.declared.lines.Outcome.{Outcome}
use Rattle.gh_check.specs.declared.lines.Outcome.TheVariants.{Faulty, Holds}

-- the line is of its kind after these lines, and its clause is in range
pub record IsTaken (p : Problem) (earlier : List LogLine) (line : LogLine) : Type 0 where
  pub kind : IsOfKind p earlier line
  pub within : IsWithin p.sizes (line_clause p line)

-- whether a line is of its kind, and the fault of one that isn't
abbrev pub IsChecked : Problem → List LogLine → LogLine → Outcome → Type 0
IsChecked p earlier line (Faulty kind) = (IsOfKind p earlier line → ⊥) × IsFaultOf p earlier line (fault_number kind)
IsChecked p earlier line Holds = IsTaken p earlier line

-- where the line is of its kind, this with the line's clause is what is kept of the lines before and the line
abbrev pub IsKeptAfter : Problem → List LogLine → LogLine → Outcome → Kept → Type 0
IsKeptAfter p earlier line (Faulty kind) k = ⊤
IsKeptAfter p earlier line Holds k = AreLinesKept p (earlier ++ line ∷ []) (with_line k (line_clause p line))

-- the outcome for a line after all lines of which this is kept
abbrev pub Answers : Problem → Kept → LogLine → Outcome → Type 0
Answers p k line o = (earlier : List LogLine) → AreLinesKept p earlier k → IsChecked p earlier line o

-- .. of any ground clauses over these numbers
abbrev pub AnswersOver : Sizes → Kept → LogLine → Outcome → Type 0
AnswersOver sizes k line o = (p : Problem) → p.sizes ≡ sizes → Answers p k line o

-- what is kept after the check of a line
abbrev pub Leaves : Problem → Kept → LogLine → Outcome → Kept → Type 0
Leaves p old line o new = (earlier : List LogLine) → AreLinesKept p earlier old → IsKeptAfter p earlier line o new

-- what is kept fits clauses over these numbers
pub record FitsSizes (sizes : Sizes) (e : Earlier) : Type 0 where
  pub within : AreWithin sizes e.kept.clauses
  pub root_units : AreRootUnitsOf sizes e.kept.clauses e.root_units
  pub behind : IsBehind sizes e.kept.clauses e.units
  pub truths : e.truths.sizes ≡ sizes

-- .. also when the line to be taken next was taken, if its clause is over these numbers
abbrev pub StaysReady : Earlier → Earlier → Type 0
StaysReady old new = (sizes : Sizes) (l : LogLine) → next_line old.kept ≡ Some l
    → IsWithin sizes (line_clause old.kept.problem l) → FitsSizes sizes old → FitsSizes sizes new

-- The lines that reports begin with.
use Rattle.std.specs.Prelude.{ℕ, List, ◌++◌, codes}
use Rattle.std.specs.Fmt.{decimal}
use Rattle.gh_base.specs.declared.place.Span.{Span}
use Rattle.gh_draw.specs.Descriptions.{place_text}
use Rattle.gh_draw.specs.Drawings.{line}

-- all of so many conditions are valid
abbrev pub verified_line : ℕ → List ℕ
verified_line count = line (codes "verified: " ++ decimal count ++ codes " of " ++ decimal count ++ codes " valid")

-- which of so many conditions is refuted, and how many before it are valid
abbrev pub refuted_line : ℕ → ℕ → ℕ → List ℕ
refuted_line number count before =
    line (codes "refuted: condition " ++ decimal number ++ codes " of " ++ decimal count
    ++ codes ", " ++ decimal before ++ codes " valid before it")

-- which of so many conditions is refuted, and how many cells the first heap has
abbrev pub smallest_line : ℕ → ℕ → ℕ → List ℕ
smallest_line number count cells =
    line (codes "smallest: condition " ++ decimal number ++ codes " of " ++ decimal count
    ++ codes ", " ++ decimal cells ++ codes " cells")

-- how many procedures and conditions the text of a number has
abbrev pub stress_line : ℕ → ℕ → ℕ → List ℕ
stress_line n procedures count =
    line (codes "stress " ++ decimal n ++ codes ": " ++ decimal procedures ++ codes " procedures, " ++ decimal count
    ++ codes " conditions, verified")

-- so many sections are valid, one for each of so many conditions
abbrev pub rechecked_line : ℕ → List ℕ
rechecked_line count = line (codes "rechecked: " ++ decimal count ++ codes " of " ++ decimal count ++ codes " valid")

-- a log has so many sections in place of so many
abbrev pub sections_line : ℕ → ℕ → List ℕ
sections_line sections count =
    line (codes "refused: log sections " ++ decimal sections ++ codes " of " ++ decimal count)

-- at which line of a log a fault of the name is
abbrev pub fault_line : ℕ → List ℕ → List ℕ
fault_line at name = line (codes "refused: log line " ++ decimal at ++ codes ", " ++ name)

-- which of so many conditions a drawing refutes
abbrev pub replayed_line : ℕ → ℕ → List ℕ
replayed_line number count =
    line (codes "replayed: condition " ++ decimal number ++ codes " of " ++ decimal count ++ codes " is refuted")

-- none of so many conditions has the number
abbrev pub unnumbered_line : ℕ → ℕ → List ℕ
unnumbered_line number count = line (codes "refused: no condition " ++ decimal number ++ codes " of " ++ decimal count)

-- a script would have so many assertions
abbrev pub script_limit_line : Span → ℕ → List ℕ
script_limit_line span count =
    line (codes "refused: Limit script at " ++ place_text span ++ codes ", count " ++ decimal count)

-- the end of a line of the list of conditions
abbrev pub counts_line : ℕ → ℕ → ℕ → List ℕ
counts_line steps versions terms =
    line (codes ", " ++ decimal steps ++ codes " steps, " ++ decimal versions ++ codes " versions, " ++ decimal terms
    ++ codes " terms")

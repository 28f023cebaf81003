-- The lines that tell what changes, and what is handed over.
use Rattle.std.specs.Prelude.{ℕ, List, [], ◌++◌, map, Option, Some, None, codes}
use Rattle.std.specs.List.{flat_map}
use Rattle.std.specs.Fmt.{decimal}
use Rattle.std.specs.FinMap.{keys}
use Rattle.gh_assert.specs.Stores.{store_of}
use Rattle.gh_draw.specs.Drawings.{line}
use Rattle.gh_log.specs.Texts.{numbers_text}
use Rattle.gh_trace.specs.declared.state.State.{State}
use Rattle.gh_lens.specs.declared.changes.VariableChange.{VariableChange}
use Rattle.gh_lens.specs.declared.changes.CellChange.{CellChange}
use Rattle.gh_lens.specs.declared.exchange.Exchange.{Exchange}
use Rattle.gh_lens.specs.Changes.{variable_changes, cell_changes}

-- `  NAME: OLD -> NEW`
abbrev pub variable_line : VariableChange → List ℕ
variable_line c = line (codes "  " ++ c.name ++ codes ": " ++ decimal c.old ++ codes " -> " ++ decimal c.new)

abbrev pub contents_text : Option ℕ → Option ℕ → List ℕ
contents_text (Some v) (Some w) = decimal v ++ codes " -> " ++ decimal w
contents_text (Some v) None = decimal v ++ codes ", gone"
contents_text None (Some w) = codes "new, " ++ decimal w
contents_text None None = []

-- `  PLACE.next: OLD -> NEW`
abbrev pub cell_line : CellChange → List ℕ
cell_line c = line (codes "  " ++ decimal c.at ++ codes ".next: " ++ contents_text c.old c.new)

-- what is different in the second of two states
abbrev pub changes_text : State → State → List ℕ
changes_text old new =
    flat_map variable_line (variable_changes old.store (store_of new.store))
    ++ flat_map cell_line (cell_changes old.heap new.heap)

-- ` N` for the place of each of some cells
abbrev pub places_text : List (ℕ × ℕ) → List ℕ
places_text cs = numbers_text (map (λ c. c.0) cs)

-- the places that are handed over, those that are left aside, and those that came back
abbrev pub exchange_text : Exchange → List ℕ
exchange_text e =
    line (codes "  handed over:" ++ numbers_text e.handed.items)
    ++ line (codes "  left aside:" ++ numbers_text (keys e.frame))
    ++ line (codes "  came back:" ++ numbers_text (keys e.back))

-- What differs between two states.
use Rattle.std.specs.Prelude.{ℕ, List, ◌++◌, map, filter, Bool, true, false, not, ◌==◌, Option, Some, None}
use Rattle.std.specs.FinMap.{get, entries}
use Rattle.gh_assert.specs.Heaps.{Heap}
use Rattle.gh_assert.specs.Meaning.{Store}
use Rattle.gh_assert.specs.declared.store.Entry.{Entry}
use Rattle.gh_lens.specs.declared.changes.VariableChange.{VariableChange}
use Rattle.gh_lens.specs.declared.changes.CellChange.{CellChange}

-- a variable with its two values
abbrev pub variable_change : Store → Entry → VariableChange
variable_change new e = record { name = e.name; old = e.value; new = new e.name }

-- the variables of a store, in their order, whose value in the new store is another
abbrev pub variable_changes : List Entry → Store → List VariableChange
variable_changes old new = map (variable_change new) (filter (λ e. not (new e.name == e.value)) old)

abbrev pub is_content : Option ℕ → ℕ → Bool
is_content None v = false
is_content (Some w) v = w == v

abbrev pub is_missing : Option ℕ → Bool
is_missing None = true
is_missing (Some v) = false

-- a cell of the old heap with its content in the new one, if it is there
abbrev pub old_change : Heap → ℕ × ℕ → CellChange
old_change new c = record { at = c.0; old = Some c.1; new = get new c.0 }

-- a cell that the old heap doesn't have
abbrev pub new_change : ℕ × ℕ → CellChange
new_change c = record { at = c.0; old = None; new = Some c.1 }

-- of some cells of the old heap those that are gone or have another content in the new one
abbrev pub old_changes : Heap → List (ℕ × ℕ) → List CellChange
old_changes new cs = map (old_change new) (filter (λ c. not (is_content (get new c.0) c.1)) cs)

-- of some cells of the new heap those that the old one doesn't have
abbrev pub new_changes : Heap → List (ℕ × ℕ) → List CellChange
new_changes old cs = map new_change (filter (λ c. is_missing (get old c.0)) cs)

-- the cells that changed or are gone, ascending, then those that came, ascending
abbrev pub cell_changes : Heap → Heap → List CellChange
cell_changes old new = old_changes new (entries old) ++ new_changes old (entries new)

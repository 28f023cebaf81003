-- How the cells and the variables of a state stand to the step that led to it.
use Rattle.std.specs.Prelude.{ℕ, List, map, Bool, true, false, ◌==◌, if◌then◌else◌, is_some}
use Rattle.std.specs.FinMap.{get, entries}
use Rattle.gh_assert.specs.Heaps.{Heap}
use Rattle.gh_assert.specs.Meaning.{Store}
use Rattle.gh_assert.specs.declared.store.Entry.{Entry}
use Rattle.gh_lens.specs.Changes.{is_content}
use Rattle.gh_picture.specs.declared.scene.Change.{Change}
use Rattle.gh_picture.specs.declared.scene.Change.TheVariants as change
use Rattle.gh_picture.specs.declared.scene.Role.{Role}
use Rattle.gh_picture.specs.declared.scene.Role.TheVariants.{Owned, Framed, Changed, Leaked}

-- a role: whether the cell is left over, whether it was set aside, whether it was there before with the same content
abbrev pub role_by : Bool → Bool → Bool → Role
role_by true aside same = Leaked
role_by false true same = Framed
role_by false false true = Owned
role_by false false false = Changed

-- the role of a cell, given the heap before, what was set aside, and what is left over
abbrev pub role_of : Heap → Heap → Heap → ℕ × ℕ → Role
role_of old aside spare c = role_by (is_some (get spare c.0)) (is_some (get aside c.0)) (is_content (get old c.0) c.1)

-- a role for each cell of the new heap, the places ascending
abbrev pub roles_of : Heap → Heap → Heap → Heap → List Role
roles_of old aside spare new = map (role_of old aside spare) (entries new)

abbrev pub change_between : ℕ → ℕ → Change
change_between old new = if old == new then change.Same else change.Changed

-- a change for each variable of the new store, in their order
abbrev pub changes_of : Store → List Entry → List Change
changes_of old new = map (λ e. change_between (old e.name) e.value) new

-- The variables that a step may change, and the values that names get.
use Rattle.std.specs.Prelude.{◌≡◌, List, [], ◌∷◌, ℕ, Contains}
use Rattle.gh_ast.specs.Plain.{block_of}
use Rattle.gh_ast.specs.Programs.{Name, names, SomeAssigns}
use Rattle.gh_assert.specs.Stores.{store_of}
use Rattle.gh_assert.specs.declared.store.Entry.{Entry}
use Rattle.gh_trace.specs.declared.targets.Targets.{Targets}
use Rattle.gh_trace.specs.declared.targets.Targets.TheVariants.{Names, Body}

abbrev pub IsTarget : Targets → Name → Type 0
IsTarget (Names os) n = Contains (names os.now) n
IsTarget (Body b) n = SomeAssigns (block_of b.now).statements n

-- each name that is no target has the same value in both
abbrev pub KeepsOthers : Targets → List Entry → List Entry → Type 0
KeepsOthers ts old new = (n : Name) → (IsTarget ts n → ⊥) → store_of new n ≡ store_of old n

-- names with values beside them, as many as there are of both
abbrev pub entries_of : List Name → List ℕ → List Entry
entries_of [] vs = []
entries_of (n ∷ ns) [] = []
entries_of (n ∷ ns) (v ∷ vs) = record { name = n; value = v } ∷ entries_of ns vs

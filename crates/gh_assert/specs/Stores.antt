-- Stores as they are kept: a list of names with values.
use Rattle.std.specs.Prelude.{◌≡◌, ◌≢◌, ℕ, ◌<◌, List, length, slice_index_or, [], ◌∷◌, map, Option, Some, None, cond}
use Rattle.std.specs.Prelude.{unwrap_or, AllPairs}
use Rattle.std.specs.Str.{bytes_eq}
use Rattle.gh_ast.specs.Programs.{Name}
use Rattle.gh_assert.specs.declared.store.Entry.{Entry}
use Rattle.gh_assert.specs.Meaning.{Store}

abbrev pub listed_names : List Entry → List Name
listed_names entries = map (λ e. e.name) entries

-- no name is listed twice
abbrev pub AreDistinct : List Entry → Type 0
AreDistinct entries = AllPairs (λ x y. x ≢ y) (listed_names entries)

-- the value of the first entry of the name, if there is one
abbrev pub listed : List Entry → Name → Option ℕ
listed [] name = None
listed (e ∷ es) name = cond (bytes_eq e.name name) (Some e.value) (listed es name)

-- the listed values, and 0 for every other name
abbrev pub store_of : List Entry → Store
store_of entries name = unwrap_or (listed entries name) 0

-- the first entry of the name stands at i
pub record IsListedAt (entries : List Entry) (name : Name) (i : ℕ) : Type 0 where
  pub within : i < length entries
  pub named : (d : Entry) → (slice_index_or entries i d).name ≡ name
  pub earlier : (k : ℕ) (d : Entry) → k < i → (slice_index_or entries k d).name ≢ name

-- one name gets a value; the names, their order and all other values stay
pub record IsSet (old new : List Entry) (name : Name) (value : ℕ) : Type 0 where
  pub names : listed_names new ≡ listed_names old
  pub value_is : listed new name ≡ Some value
  pub others : (other : Name) → other ≢ name → listed new other ≡ listed old other

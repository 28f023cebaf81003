-- Named files, of which one may be begun.
use Rattle.std.specs.Prelude.{◌≡◌, ℕ, List, [], Option, Some, None, cond, slice_get, position, unwrap_or, option_map}
use Rattle.std.specs.Prelude.{drop}
use Rattle.std.specs.Str.{bytes_eq}
use Rattle.gh_base.specs.Outside.{Table}
use Rattle.gh_base.specs.declared.files.File.{File}
use Rattle.gh_base.specs.declared.files.Files.{Files}

abbrev pub content : File → List ℕ
content f = f.bytes.items

-- the bytes of the file at a place, none past the last
abbrev pub bytes_at : List File → ℕ → List ℕ
bytes_at files place = unwrap_or (option_map content (slice_get files place)) []

-- the place of the first file of a name
abbrev pub place_of : List File → List ℕ → Option ℕ
place_of files name = position (λ f. bytes_eq f.name.items name) files

abbrev pub table_of : List File → Table
table_of files name = option_map (bytes_at files) (place_of files name)

-- what is left of the file that was begun
abbrev pub left_of : List File → Option ℕ → ℕ → List ℕ
left_of files None at = []
left_of files (Some place) at = drop at (bytes_at files place)

-- the bytes for each name
abbrev pub table_in : Files → Table
table_in f = table_of f.list.items

-- the bytes left of the file that is begun
abbrev pub left_in : Files → List ℕ
left_in f = left_of f.list.items f.begun f.at

-- no file, and nothing begun
pub record AreNoFiles (f : Files) : Type 0 where
  pub list : f.list.items ≡ []
  pub begun : f.begun ≡ None

-- one name has these bytes now, and each other one what it had
abbrev pub HasMore : Table → Table → List ℕ → List ℕ → Type 0
HasMore old new name bytes = (n : List ℕ) → new n ≡ cond (bytes_eq name n) (Some bytes) (old n)

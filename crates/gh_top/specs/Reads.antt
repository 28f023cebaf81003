-- Which files a run begins, in which order, and in how many calls.
use Rattle.std.specs.Prelude.{◌≡◌, ℕ, ◌+◌, List, [], ◌∷◌, ◌++◌, Option, Some, None, ⊤}
use Rattle.gh_base.specs.Outside.{Table, AddsName, MakesAtMost}
use Rattle.gh_base.specs.Reading.{told, calls_for}
use Rattle.gh_ast.specs.Plain.{Program}
use Rattle.gh_top.specs.Words.{IsRequest}
use Rattle.gh_top.specs.Sources.{Source, from_file, self_made, source_of, second_file}
use Rattle.gh_top.specs.Headline.{Files, AreAsTold, Asks}
use Rattle.gh_top.specs.Seen.{InputsTold, Reading}
use Rattle.gh_top.specs.declared.words.Request.{Request}

-- The names of the files that a run begins, and how many calls it makes at most, those that reading these files takes:
-- none, the first file, or the first and the second file, which is begun only where the program is accepted.
pub data IsOrder (table : Option Table) (words : List (List ℕ)) : List (List ℕ) → ℕ → Type 0 where
  nothing : IsOrder table words [] 0
  first : {f : List ℕ} {most : ℕ} (r : Request) → IsRequest words r → source_of r ≡ from_file f most
      → IsOrder table words (f ∷ []) (calls_for (told table f) most)
  second : {f g : List ℕ} {most limit : ℕ} {P : Program} (r : Request) (files : Files) → AreAsTold table words files
      → Asks words files r P
      → source_of r ≡ from_file f most → second_file r ≡ Some (g, limit)
      → IsOrder table words (f ∷ g ∷ []) (calls_for (told table f) most + calls_for (told table g) limit)

-- some names were begun after those before them, where names are told; the telling may end
abbrev pub AddsNames : Option (List (List ℕ)) → Option (List (List ℕ)) → List (List ℕ) → Type 0
AddsNames None new names = new ≡ None
AddsNames (Some before) None names = ⊤
AddsNames (Some before) (Some after) names = after ≡ before ++ names

-- 5: the files are begun in order, no more calls are made than reading them takes, and each name keeps its bytes
pub record ReadsInOrder (words : List (List ℕ)) (r : Reading) : Type 0 where
  pub names : List (List ℕ)
  pub most : ℕ
  pub order : IsOrder r.before.table words names most
  pub begun : AddsNames r.before.names r.after.names names
  pub calls : MakesAtMost most r.before.calls r.after.calls
  pub table : r.after.table ≡ r.before.table

-- a file is begun and read
pub record ReadsFile (name : List ℕ) (most : ℕ) (r : Reading) : Type 0 where
  pub begun : AddsName r.before.names r.after.names name
  pub calls : MakesAtMost (calls_for (told r.before.table name) most) r.before.calls r.after.calls
  pub table : r.after.table ≡ r.before.table

-- nothing is begun, and no call is made
pub record ReadsNothing (r : Reading) : Type 0 where
  pub names : r.after.names ≡ r.before.names
  pub calls : r.after.calls ≡ r.before.calls
  pub table : r.after.table ≡ r.before.table

-- the first file is begun and read, where there is one
abbrev pub FirstRead : Source → Reading → Type 0
FirstRead (self_made text) r = ReadsNothing r
FirstRead (from_file file most) r = ReadsFile file most r

-- the files of a request are begun in order
abbrev pub ReadsFor : Request → Reading → Type 0
ReadsFor q r = (words : List (List ℕ)) → IsRequest words q → ReadsInOrder words r

-- the same, where the first file had been read before
abbrev pub ReadsOn : Request → Reading → Type 0
ReadsOn q r =
    (first : InputsTold) → FirstRead (source_of q) (record { before = first; after = r.before })
    → ReadsFor q (record { before = first; after = r.after })

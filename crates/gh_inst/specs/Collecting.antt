-- Lists of instances that are false.
use Rattle.std.specs.Prelude.{◌≡◌, ◌≢◌, ◌⊎◌, ◌<◌, ◌≤◌, ◌+◌, ◌*◌, ◌-◌, ℕ, List, [], ◌∷◌, ◌++◌, length, map}
use Rattle.std.specs.Prelude.{slice_index_or, All, AllPairs, Contains, Option, Some}
use Rattle.std.specs.Int.{bit_at}
use Rattle.gh_base.specs.declared.atom.Term.{Term}
use Rattle.gh_base.specs.declared.sizes.Sizes.{Sizes}
use Rattle.gh_base.specs.Meaning.{Interpretation}
use Rattle.gh_base.specs.Structures.{Tables, interpretation_of}
use Rattle.gh_base.specs.Atoms.{term}
use Rattle.gh_inst.specs.declared.collecting.Looked.{Looked}
use Rattle.gh_inst.specs.declared.naming.InstanceName.{InstanceName}
use Rattle.gh_inst.specs.Instances.{IsInstance, name_of, row_in}
use Rattle.gh_inst.specs.Tuples.{tuples}
use Rattle.gh_inst.specs.Violations.{IsInstanceTrue, IsFirstWithout, IsFirstFalseIn}
use Rattle.gh_inst.specs.Table.{AxiomRow, row_with, table, row}
use Rattle.gh_inst.specs.Search.{IsAmong, IsRowTrue, IsFirstTuple, tuples_with}
use Rattle.gh_inst.specs.Words.{AreWords}

abbrev pub IsFalseInstance : Sizes → Interpretation → InstanceName → Type 0
IsFalseInstance s m name = IsInstance s.terms s.versions name × ¬ IsInstanceTrue m name

-- an instance is false in a structure
abbrev pub IsFalseIn : Tables → InstanceName → Type 0
IsFalseIn s name = IsFalseInstance s.sizes (interpretation_of s) name

-- false instances were added to a list; where none was added, `Otherwise` holds
pub record Gathers (s : Sizes) (m : Interpretation) (old new : List InstanceName) (Otherwise : Type 0) : Type 0 where
  pub more : List InstanceName
  pub added : new ≡ old ++ more
  pub each : All (IsFalseInstance s m) more
  pub none : more ≡ [] → Otherwise

-- a row of the table, a version and the words of that version
pub record IsLooked (r : Looked) : Type 0 where
  pub version_there : r.version < r.structure.now.sizes.versions
  pub words_are : AreWords (interpretation_of r.structure.now) r.version r.structure.now.sizes.terms r.words.now
  pub row_is : row_with r.number table ≡ Some (row r.number r.variables r.lits.now)
  pub some : 1 ≤ r.variables
  pub few : r.variables ≤ 4
  pub places : All (IsAmong r.variables) r.lits.now

-- the row is true at a tuple
abbrev pub IsTrueAt : Looked → List Term → Type 0
IsTrueAt r tuple = IsRowTrue (interpretation_of r.structure.now) r.version r.lits.now tuple

-- false instances of the row were added to a list: none where the row is true at all of some tuples, and else the first
-- one of those at which it is false, among others
pub record GathersAt (r : Looked) (all : List (List Term)) (old new : List InstanceName) : Type 0 where
  pub gathers : Gathers r.structure.now.sizes (interpretation_of r.structure.now) old new (All (IsTrueAt r) all)
  pub sound : All (IsTrueAt r) all → new ≡ old
  pub first : (tuple : List Term) → IsFirstWithout (IsTrueAt r) all tuple
      → Contains new (name_of r.number r.version tuple)

-- the row is true at all tuples that begin with some terms, of which there are so many
abbrev pub IsTrueFrom : Looked → List Term → ℕ → Type 0
IsTrueFrom r start first = All (IsTrueAt r) (tuples_with (r.variables - first) r.structure.now.sizes.terms start)

-- the row is true after a term and any second one below 32 whose bit is 0
abbrev pub AreSeconds : Looked → Term → ℕ → Type 0
AreSeconds r x bits = (y : ℕ) → y < r.structure.now.sizes.terms → y < 32 → bit_at bits y ≡ 0
    → IsTrueFrom r (x ∷ term y ∷ []) 2

-- the row's first false tuple among those that begin with the first terms of another, if there is one
abbrev pub IsFirstOfRow : Looked → ℕ → List Term → Option (List Term) → Type 0
IsFirstOfRow r first start found = IsFirstTuple r.structure.now r.version r.lits.now r.variables first start found

-- false instances of the row were added at the tuples that begin with some terms and have so many more
abbrev pub GathersIn : Looked → List Term → ℕ → List InstanceName → List InstanceName → Type 0
GathersIn r first more old new = GathersAt r (tuples_with more r.structure.now.sizes.terms first) old new

-- .. that begin with some terms, of which there are so many
abbrev pub GathersFrom : Looked → List Term → ℕ → List InstanceName → List InstanceName → Type 0
GathersFrom r start first old new = GathersIn r start (r.variables - first) old new

-- a row's instances in a version are true
pub record RowHolds (s : Sizes) (m : Interpretation) (version : ℕ) (r : AxiomRow) : Type 0 where
  pub holds : All (IsInstanceTrue m) (map (name_of r.number version) (tuples r.variables s.terms))

-- the first false instance of a row in a version is named, if there is one
pub record IsNamed (s : Sizes) (m : Interpretation) (version : ℕ) (found : List InstanceName)
    (r : AxiomRow) : Type 0 where
  pub first : (name : InstanceName) → IsFirstWithout (IsInstanceTrue m) (row_in s version r) name → Contains found name

-- .. of the row of a number, in a structure
abbrev pub IsRowNamed : Tables → ℕ → ℕ → List InstanceName → Type 0
IsRowNamed s version number found =
    (r : AxiomRow) → row_with number table ≡ Some r → IsNamed s.sizes (interpretation_of s) version found r

-- false instances were added to a list; where none was added, the row of a number holds in a version
abbrev pub GathersRow : Tables → ℕ → ℕ → List InstanceName → List InstanceName → Type 0
GathersRow s version number old new = (r : AxiomRow) → row_with number table ≡ Some r
    → Gathers s.sizes (interpretation_of s) old new (RowHolds s.sizes (interpretation_of s) version r)

-- the first false instance of each row in a version is named, if there is one
pub record AreNamed (s : Sizes) (m : Interpretation) (version : ℕ) (found : List InstanceName) : Type 0 where
  pub rows : All (IsNamed s m version found) table

-- .. in a structure
abbrev pub AreNamedIn : Tables → ℕ → List InstanceName → Type 0
AreNamedIn s version found = AreNamed s.sizes (interpretation_of s) version found

-- .. and of each version
abbrev pub AreAllNamed : Tables → List InstanceName → Type 0
AreAllNamed s found = (version : ℕ) → version < s.sizes.versions → AreNamedIn s version found

-- the first false instance of all is named, if there is one
abbrev pub IsFirstNamed : Tables → List InstanceName → Type 0
IsFirstNamed s found = (name : InstanceName) → IsFirstFalseIn s name → Contains found name

-- every instance in a version is true
pub record VersionHolds (s : Sizes) (m : Interpretation) (version : ℕ) : Type 0 where
  pub holds : All (RowHolds s m version) table

-- false instances were added to a list; where none was added, every instance in a version is true
abbrev pub GathersVersion : Tables → ℕ → List InstanceName → List InstanceName → Type 0
GathersVersion s version old new =
    Gathers s.sizes (interpretation_of s) old new (VersionHolds s.sizes (interpretation_of s) version)

-- no name is listed twice
abbrev pub AreDistinct : List InstanceName → Type 0
AreDistinct names = AllPairs (λ a b. a ≢ b) names

-- the order in which names are found: by version, then by row, then by the first two terms
abbrev pub place : ℕ → ℕ → ℕ → ℕ → ℕ
place version number x y = 16777216 * version + 65536 * number + 256 * x + y

abbrev pub place_of : InstanceName → ℕ
place_of name =
    place name.version name.row (slice_index_or name.terms 0 (term 0)).0 (slice_index_or name.terms 1 (term 0)).0

-- names in this order, all before a place
pub record IsUpTo (high : ℕ) (names : List InstanceName) : Type 0 where
  pub ascending : AllPairs (λ a b. place_of a < place_of b) names
  pub below : All (λ a. place_of a < high) names

-- what was before one place is now before another
abbrev pub GoesUp : ℕ → ℕ → List InstanceName → List InstanceName → Type 0
GoesUp low high old new = IsUpTo low old → IsUpTo high new

-- what was before a first term of a row in a version is now before the next term
abbrev pub PassesTerm : ℕ → ℕ → ℕ → List InstanceName → List InstanceName → Type 0
PassesTerm version number x old new = GoesUp (place version number x 0) (place version number (x + 1) 0) old new

-- .. before a row in a version, before the next row
abbrev pub PassesRow : ℕ → ℕ → List InstanceName → List InstanceName → Type 0
PassesRow version number old new = GoesUp (place version number 0 0) (place version (number + 1) 0 0) old new

-- .. before a version, before the next version
abbrev pub PassesVersion : ℕ → List InstanceName → List InstanceName → Type 0
PassesVersion version old new = GoesUp (place version 0 0 0) (place (version + 1) 0 0 0) old new

-- at most one name was added, of a tuple of the row that begins with some terms
abbrev pub AddsOneAt : Looked → List Term → List InstanceName → List InstanceName → Type 0
AddsOneAt r start old new =
    (new ≡ old) ⊎ ((rest : List Term) × (length start + length rest ≡ r.variables)
    × (new ≡ old ++ name_of r.number r.version (start ++ rest) ∷ []))

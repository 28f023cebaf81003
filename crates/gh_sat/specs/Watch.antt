-- Which clauses need no look.
use Rattle.std.specs.Prelude.{◌≡◌, ℕ, ◌+◌, ◌*◌, ◌<◌, List, [], Bool, true, false, Some, All, Contains, length, map}
use Rattle.std.specs.Prelude.{take, slice_get, slice_index_or}
use Rattle.gh_base.specs.declared.atom.Lit.{Lit}
use Rattle.gh_base.specs.declared.sizes.Sizes.{Sizes}
use Rattle.gh_base.specs.Atoms.{number_of}
use Rattle.gh_sat.specs.declared.trail.Step.{Step}
use Rattle.gh_sat.specs.Trail.{SearchState, IsFalseIn}
use Rattle.gh_sat.specs.Status.{IsGuarded}

-- each clause that was looked at has a true literal, or two that aren't false before `head`
abbrev pub AreGuarded : List (List Lit) → List Step → ℕ → ℕ → Type 0
AreGuarded clauses trail head looked =
    (k : ℕ) (c : List Lit) → k < looked → slice_get clauses k ≡ Some c → IsGuarded trail (take head trail) c

-- the same with the step at `head`, for all but the clauses that are left
abbrev pub AreVisited : List (List Lit) → List Step → ℕ → ℕ → List ℕ → Type 0
AreVisited clauses trail head looked rest = (k : ℕ) (c : List Lit) → k < looked → slice_get clauses k ≡ Some c
    → (Contains rest k → ⊥) → IsGuarded trail (take (head + 1) trail) c

-- the numbers of literals: an atom's negative one, then its positive one
abbrev pub sign : Bool → ℕ
sign true = 1
sign false = 0

abbrev pub code_of : Sizes → Lit → ℕ
code_of s l = 2 * number_of s l.atom + sign l.positive

-- the numbers of the clauses that may have the literal
abbrev pub clauses_of : Sizes → List (List ℕ) → Lit → List ℕ
clauses_of s lists l = slice_index_or lists (code_of s l) []

-- the list of each literal, where each has the number of one
abbrev pub lists_by : List (List ℕ) → List ℕ → List (List ℕ)
lists_by lists numbers = map (λ n. slice_index_or lists n []) numbers

-- each number is that of a list, and the first list has nothing
pub record AreLists (lists : List (List ℕ)) (numbers : List ℕ) : Type 0 where
  pub within : All (λ n. n < length lists) numbers
  pub some : 0 < length lists
  pub empty : slice_index_or lists 0 [] ≡ []

-- the number of a clause stands in the lists of its literals
abbrev pub IsListed : Sizes → List (List ℕ) → List Lit → ℕ → Type 0
IsListed s lists clause number = (m : Lit) → Contains clause m → Contains (clauses_of s lists m) number

-- each clause stands in the lists of its literals
abbrev pub AreListed : Sizes → List (List Lit) → List (List ℕ) → Type 0
AreListed s clauses lists =
    (k : ℕ) (c : List Lit) (m : Lit) → slice_get clauses k ≡ Some c → Contains c m → Contains (clauses_of s lists m) k

-- lists only grew
pub record ListsMore (old new : List (List ℕ)) : Type 0 where
  pub long : length new ≡ length old
  pub keeps : (code k : ℕ) → Contains (slice_index_or old code []) k → Contains (slice_index_or new code []) k

-- when a level was opened, so many clauses had a true literal, or two that weren't false
abbrev pub WereGuarded : List (List Lit) → List Step → List ℕ → List ℕ → Type 0
WereGuarded clauses trail starts counts =
    (level start count k : ℕ) (c : List Lit) → slice_get starts level ≡ Some start
    → slice_get counts level ≡ Some count → k < count → slice_get clauses k ≡ Some c
    → IsGuarded (take start trail) (take start trail) c

-- the clause wasn't false when a level was opened
abbrev pub WasOpen : List Step → List ℕ → List Lit → Type 0
WasOpen trail starts clause =
    (level start : ℕ) → slice_get starts level ≡ Some start → IsFalseIn (take start trail) clause → ⊥

-- no clause was false when a level was opened
abbrev pub WereOpen : SearchState → Type 0
WereOpen s = (k : ℕ) (c : List Lit) → slice_get s.clauses k ≡ Some c → WasOpen s.trail s.starts c

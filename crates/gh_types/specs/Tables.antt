-- Tables of names.
use Rattle.std.specs.Prelude.{◌≡◌, ◌≢◌, ℕ, ◌<◌, List, [], ◌∷◌, ◌++◌, length, slice_index_or, Contains, Option, None}
use Rattle.std.specs.Prelude.{Some, MatchOption}
use Rattle.std.specs.Borrow.{Bor}
use Rattle.std.specs.BTreeMap as tree
use Rattle.std.specs.Cmp.Lexicographic.{slice_cmp}
use Rattle.std.specs.Ordering.{nat_cmp}

-- a table from names to places
abbrev pub Table : Type 0
Table = tree.BTreeMap (Bor (List ℕ)) ℕ

-- where a table has a name
abbrev pub place_in : Table → List ℕ → Option ℕ
place_in t name = tree.get_by (λ k. slice_cmp nat_cmp name k.now) t

-- k is the first place of a name in a list of names
pub record IsFirstPlace (names : List (List ℕ)) (name : List ℕ) (k : ℕ) : Type 0 where
  pub within : k < length names
  pub here : slice_index_or names k name ≡ name
  pub earlier : (j : ℕ) (d : List ℕ) → j < k → slice_index_or names j d ≢ name

-- what a table of these names has for a name
abbrev pub Finds : List (List ℕ) → List ℕ → Option ℕ → Type 0
Finds names name found = MatchOption found (Contains names name → ⊥) (IsFirstPlace names name)

-- a table has the first place of each of these names, and no other name
pub record IsTableOf (names : List (List ℕ)) (t : Table) : Type 0 where
  pub absent : (name : List ℕ) → place_in t name ≡ None → Contains names name → ⊥
  pub present : (name : List ℕ) (k : ℕ) → place_in t name ≡ Some k → IsFirstPlace names name k

-- a name is added at the place after others: a table of these becomes one that has it too
abbrev pub AddsPlace : List ℕ → ℕ → Table → Table → Type 0
AddsPlace name place old new =
    (names : List (List ℕ)) → place ≡ length names → IsTableOf names old → IsTableOf (names ++ name ∷ []) new

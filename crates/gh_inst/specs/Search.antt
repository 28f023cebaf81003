-- What a search for the first one without a property comes to.
use Rattle.std.specs.Prelude.{ℕ, ◌≡◌, ◌<◌, ◌≤◌, ◌-◌, List, ◌++◌, map, take, All, Option, Some, None, option_map}
use Rattle.gh_base.specs.declared.atom.Term.{Term}
use Rattle.gh_base.specs.Meaning.{Interpretation, IsClauseTrue}
use Rattle.gh_base.specs.Structures.{Tables, interpretation_of}
use Rattle.gh_inst.specs.declared.naming.InstanceName.{InstanceName}
use Rattle.gh_inst.specs.declared.schema.Pattern.{Pattern}
use Rattle.gh_inst.specs.Schemas.{places_of, lit_over, clause_over}
use Rattle.gh_inst.specs.Table.{AxiomRow, table, row_with}
use Rattle.gh_inst.specs.Instances.{row_instances}
use Rattle.gh_inst.specs.Tuples.{tuples}
use Rattle.gh_inst.specs.Violations.{IsLitTrueIn, IsTrueIn, IsFirstWithout}

abbrev pub Comes : {X : Type 0} → (X → Type 0) → List X → Option X → Type 0
Comes P all None = All P all
Comes P all (Some x) = IsFirstWithout P all x

-- what a search through a list found: the first one without the property, or none where all have it
pub record IsSearched {X : Type 0} (P : X → Type 0) (all : List X) (found : Option X) : Type 0 where
  pub comes : Comes P all found

-- the variables of a literal are among the first ones
abbrev pub IsAmong : ℕ → Pattern → Type 0
IsAmong first p = All (λ x. x < first) (take (places_of p.shape) p.places)

-- a version of a structure, and the first terms of a tuple, which are its terms
pub record IsTupleBegun (s : Tables) (version : ℕ) (tuple : List Term) (first : ℕ) : Type 0 where
  pub version_there : version < s.sizes.versions
  pub few : first ≤ 4
  pub below : All (λ t. t.0 < s.sizes.terms) (take first tuple)

-- the clause of a row is true at a tuple
abbrev pub IsRowTrue : Interpretation → ℕ → List Pattern → List Term → Type 0
IsRowTrue m version lits tuple = IsClauseTrue m (clause_over version tuple lits)

-- a literal is true in a structure, over some terms
abbrev pub IsTrueOver : Tables → ℕ → List Term → Pattern → Type 0
IsTrueOver s version terms p = IsLitTrueIn s (lit_over version terms p)

-- .. whatever the terms after them are
abbrev pub IsAlwaysTrue : Tables → ℕ → List Term → Pattern → Type 0
IsAlwaysTrue s version terms p = (rest : List Term) → IsTrueOver s version (terms ++ rest) p

-- the clause of a row is true in a structure, at a tuple
abbrev pub IsRowTrueIn : Tables → ℕ → List Pattern → List Term → Type 0
IsRowTrueIn s version lits tuple = IsRowTrue (interpretation_of s) version lits tuple

-- .. whatever the terms after it are
abbrev pub IsRowAlwaysTrue : Tables → ℕ → List Pattern → List Term → Type 0
IsRowAlwaysTrue s version lits tuple = (rest : List Term) → IsRowTrueIn s version lits (tuple ++ rest)

-- a literal and a row are false at the first terms of a tuple, where these are all that they have
abbrev pub IsFalseOver : Tables → ℕ → ℕ → List Term → Pattern → Type 0
IsFalseOver s version first tuple p = IsAmong first p → ¬ IsTrueOver s version (take first tuple) p

abbrev pub IsRowFalseOver : Tables → ℕ → ℕ → List Term → List Pattern → Type 0
IsRowFalseOver s version first tuple lits = All (IsAmong first) lits → ¬ IsRowTrueIn s version lits (take first tuple)

-- the tuples that begin with some terms, and have so many more
abbrev pub tuples_with : ℕ → ℕ → List Term → List (List Term)
tuples_with more n first = map (λ rest. first ++ rest) (tuples more n)

-- the first tuple at which a row is false in a structure, among those that begin with the first terms of another, if
-- there is one
abbrev pub IsFirstTuple : Tables → ℕ → List Pattern → ℕ → ℕ → List Term → Option (List Term) → Type 0
IsFirstTuple s version lits variables first start found =
    IsSearched (IsRowTrueIn s version lits) (tuples_with (variables - first) s.sizes.terms (take first start))
    (option_map (take variables) found)

-- the first of some instances that is false in a structure, if there is one
abbrev pub IsFirstFalseOf : Tables → List InstanceName → Option InstanceName → Type 0
IsFirstFalseOf s names found = IsSearched (IsTrueIn s) names found

-- .. of the instances of a row
abbrev pub IsFirstFalseOfRow : Tables → ℕ → Option InstanceName → Type 0
IsFirstFalseOfRow s number found =
    (r : AxiomRow) → row_with number table ≡ Some r
    → IsFirstFalseOf s (row_instances s.sizes.terms s.sizes.versions r) found

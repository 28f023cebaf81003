-- Truths of literals, as a set and in a table, and what a clause is under them.
use Rattle.std.specs.Prelude.{◌++◌, List, Option, Some, None, Bool, true, false, Contains, MatchOption, map}
use Rattle.gh_base.specs.declared.atom.Lit.{Lit}
use Rattle.gh_base.specs.declared.sizes.Sizes.{Sizes}
use Rattle.gh_base.specs.Atoms.{opposite, IsInRange, AreInRange}
use Rattle.gh_base.specs.Assignments.{Partial, value_of}
use Rattle.gh_base.specs.Hints.{HasAllButOne}
use Rattle.gh_sat.specs.Theory.{IsRefutedBy}
use Rattle.gh_check.specs.declared.hints.Look.{Look}
use Rattle.gh_check.specs.declared.hints.Look.TheVariants.{False, Unit as One, Open}

-- what callers see of `Truths` and of `Layers`: the literals that are true
pub record TruthSet : Type 0 where
  pub sizes : Sizes
  pub lits : List Lit

-- the truth of a literal where a set of literals is true
abbrev pub IsValueIn : List Lit → Lit → Option Bool → Type 0
IsValueIn set l (Some true) = Contains set l
IsValueIn set l (Some false) = Contains set (opposite l)
IsValueIn set l None = (Contains set l → ⊥) × (Contains set (opposite l) → ⊥)

-- no literal and its opposite
abbrev pub IsConsistent : List Lit → Type 0
IsConsistent set = (l : Lit) → Contains set l → Contains set (opposite l) → ⊥

-- the table has the truths of a set that has no literal and its opposite
pub record IsTable (table : Partial) (set : List Lit) : Type 0 where
  pub range : AreInRange table.sizes set
  pub apart : IsConsistent set
  pub tells : (l : Lit) → IsInRange table.sizes l.atom → IsValueIn set l (value_of table l)

-- a literal of the clause that isn't false
abbrev pub IsNotFalse : List Lit → List Lit → Lit → Type 0
IsNotFalse set clause l = Contains clause l × (Contains set (opposite l) → ⊥)

-- a literal of the clause that isn't false is found, or none is and the clause is false
abbrev pub FindsOpen : List Lit → List Lit → Option Lit → Type 0
FindsOpen set clause found = MatchOption found (IsRefutedBy set clause) (IsNotFalse set clause)

-- the set has a literal and its opposite
abbrev pub HasBoth : List Lit → Type 0
HasBoth set = (l : Lit) × Contains set l × Contains set (opposite l)

-- a literal and its opposite are among those that make the clause false
abbrev pub HasOpposites : List Lit → Type 0
HasOpposites clause = HasBoth (map opposite clause)

-- a literal of the clause is in the set, or has its opposite in the clause
abbrev pub IsMetBy : List Lit → List Lit → Type 0
IsMetBy set clause = (l : Lit) × Contains clause l × Contains (set ++ map opposite clause) l

-- what a clause, taken as the set of its literals, is where the literals of a set are true
abbrev pub IsLook : List Lit → List Lit → Look → Type 0
IsLook set clause False = IsRefutedBy set clause
IsLook set clause (One l) = HasAllButOne set clause l
IsLook set clause Open = (IsRefutedBy set clause → ⊥) × ((l : Lit) → HasAllButOne set clause l → ⊥)

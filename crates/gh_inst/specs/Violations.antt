-- Instances that are false in a structure.
use Rattle.std.specs.Prelude.{◌≡◌, List, ◌∷◌, ◌++◌, All}
use Rattle.gh_base.specs.declared.atom.Lit.{Lit}
use Rattle.gh_base.specs.declared.sizes.Sizes.{Sizes}
use Rattle.gh_base.specs.Meaning.{Interpretation, IsLitTrue, IsClauseTrue}
use Rattle.gh_base.specs.Structures.{Tables, interpretation_of}
use Rattle.gh_inst.specs.declared.naming.InstanceName.{InstanceName}
use Rattle.gh_inst.specs.Instances.{instances, clause_of}

abbrev pub IsInstanceTrue : Interpretation → InstanceName → Type 0
IsInstanceTrue m name = IsClauseTrue m (clause_of name)

-- a literal, a clause and an instance are true in a structure
abbrev pub IsLitTrueIn : Tables → Lit → Type 0
IsLitTrueIn s lit = IsLitTrue (interpretation_of s) lit

abbrev pub IsClauseTrueIn : Tables → List Lit → Type 0
IsClauseTrueIn s clause = IsClauseTrue (interpretation_of s) clause

abbrev pub IsTrueIn : Tables → InstanceName → Type 0
IsTrueIn s name = IsInstanceTrue (interpretation_of s) name

-- every instance is true
abbrev pub AreInstancesTrue : Sizes → Interpretation → Type 0
AreInstancesTrue s m = All (IsInstanceTrue m) (instances s.terms s.versions)

-- every instance is true in a structure
abbrev pub AreAllTrueIn : Tables → Type 0
AreAllTrueIn s = AreInstancesTrue s.sizes (interpretation_of s)

-- the first of some that doesn't have a property
pub record IsFirstWithout {X : Type 0} (P : X → Type 0) (all : List X) (x : X) : Type 0 where
  pub before : List X
  pub after : List X
  pub here : all ≡ before ++ x ∷ after
  pub earlier : All P before
  pub without : ¬ P x

-- the first instance that is false
abbrev pub IsFirstFalse : Sizes → Interpretation → InstanceName → Type 0
IsFirstFalse s m name = IsFirstWithout (IsInstanceTrue m) (instances s.terms s.versions) name

-- the first instance that is false in a structure
abbrev pub IsFirstFalseIn : Tables → InstanceName → Type 0
IsFirstFalseIn s name = IsFirstFalse s.sizes (interpretation_of s) name

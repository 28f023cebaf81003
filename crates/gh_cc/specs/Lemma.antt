-- When a clause follows from equality and congruence alone.
use Rattle.std.specs.Prelude.{◌≡◌, ◌≢◌, ◌⊎◌, ◌∷◌, ◌++◌, [], ℕ, Bool, true, false, List, All, Contains, MatchBool}
use Rattle.std.specs.List.Sorted.{IsNonDecreasing}
use Rattle.gh_base.specs.declared.atom.Term.{Term}
use Rattle.gh_base.specs.declared.atom.Lit.{Lit}
use Rattle.gh_base.specs.declared.sizes.Sizes.{Sizes}
use Rattle.gh_base.specs.Atoms.{opposite, number_of}
use Rattle.gh_base.specs.Meaning.{IsEqualityClause}
use Rattle.gh_cc.specs.declared.keys.Keyed.{Keyed}
use Rattle.gh_cc.specs.declared.partition.Link.{Link}
use Rattle.gh_cc.specs.Partitions.{Merged, AreMerges, disequality_of}
use Rattle.gh_cc.specs.Asserted.{equality}
use Rattle.gh_cc.specs.Kept.{normal, reps, IsRelation}

-- a test answers whether something holds
abbrev pub Tells : Bool → Type 0 → Type 0
Tells answer P = MatchBool answer P (P → ⊥)

-- over so many terms, versions and definitions the clause follows from equality and congruence alone
abbrev pub IsLemmaOver : ℕ → ℕ → ℕ → List Lit → Type 0
IsLemmaOver terms versions defs clause =
    IsEqualityClause (record { terms = terms; versions = versions; defs = defs }) clause

-- two literals of opposite signs over terms of the same classes
pub record Opposes (s : Sizes) (links : List Link) (other l : Lit) : Type 0 where
  pub key : number_of s (normal (reps links) other.atom) ≡ number_of s (normal (reps links) l.atom)
  pub signs : other.positive ≢ l.positive

-- some literal of the list opposes this one
abbrev pub IsOpposed : Sizes → List Link → List Lit → Lit → Type 0
IsOpposed s links lits l = (other : Lit) × Contains lits other × Opposes s links other l

-- a literal that is true where the negations of the others are: an equality of terms of one class, or one that is
-- opposed
abbrev pub IsDerived : Sizes → List Link → List Lit → Lit → Type 0
IsDerived s links lits l =
    ((a : Term) × (b : Term) × (l ≡ equality a b) × (reps links a.0 ≡ reps links b.0))
    ⊎ (IsRelation l.atom × IsOpposed s links lits l)

-- some literal is
pub record HasDerived (s : Sizes) (links : List Link) (lits : List Lit) : Type 0 where
  pub lit : Lit
  pub there : Contains lits lit
  pub derived : IsDerived s links lits lit

-- some literal of this sign has the key: the number of its atom with representatives in the places of terms
pub record HasKey (s : Sizes) (links : List Link) (lits : List Lit) (sign : Bool) (key : ℕ) : Type 0 where
  pub lit : Lit
  pub there : Contains lits lit
  pub signed : lit.positive ≡ sign
  pub is : number_of s (normal (reps links) lit.atom) ≡ key

-- the keys of the literals of a sign
pub record AreListed (s : Sizes) (links : List Link) (lits : List Lit) (sign : Bool) (keys : List ℕ) : Type 0 where
  pub each : All (HasKey s links lits sign) keys
  pub all : All (λ l. l.positive ≡ sign → Contains keys (number_of s (normal (reps links) l.atom))) lits

-- .. in ascending order
pub record AreKeys (s : Sizes) (links : List Link) (lits : List Lit) (sign : Bool) (keys : List ℕ) : Type 0 where
  pub listed : AreListed s links lits sign keys
  pub ascending : IsNonDecreasing keys

-- the keys of the positive literals and those of the negated ones
pub record IsKeyed (s : Sizes) (links : List Link) (k : Keyed) : Type 0 where
  pub positive : AreKeys s links k.lits.now true k.positive.items
  pub negated : AreKeys s links k.lits.now false k.negated.items

-- two terms were joined
pub record JoinsTerms (old new : Merged) (a b : Term) : Type 0 where
  pub apart : reps old.links a.0 ≢ reps old.links b.0
  pub merged : new ≡ record { terms = old.terms; links = old.links ++ (record { from = a; to = b }) ∷ [] }

-- two terms had one class
pub record HaveOneClass (old new : Merged) (a b : Term) : Type 0 where
  pub same : reps old.links a.0 ≡ reps old.links b.0
  pub stays : new ≡ old

-- the answer tells whether the terms were joined
abbrev pub TellsJoin : Merged → Merged → Term → Term → Bool → Type 0
TellsJoin old new a b answer = MatchBool answer (JoinsTerms old new a b) (HaveOneClass old new a b)

-- where the literal is a negated equality, its terms have one class
abbrev pub IsJoined : List Link → Lit → Type 0
IsJoined links l = (a b : Term) → opposite l ≡ equality a b → reps links a.0 ≡ reps links b.0

-- the links rest on negated equalities of the clause, and join the terms of those in `first`
pub record AreNegatedClasses (lits first : List Lit) (p : Merged) : Type 0 where
  pub merges : AreMerges p.terms p.links
  pub linked : (k : Link) → Contains p.links k → Contains lits (disequality_of k)
  pub joined : All (IsJoined p.links) first

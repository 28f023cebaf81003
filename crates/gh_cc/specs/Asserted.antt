-- Asserted literals, and what they say by equality and congruence alone.
use Rattle.std.specs.Prelude.{◌≡◌, ◌≢◌, List, All, Contains, true}
use Rattle.gh_base.specs.declared.atom.Term.{Term}
use Rattle.gh_base.specs.declared.atom.Atom.{Atom}
use Rattle.gh_base.specs.declared.atom.Atom.TheVariants.{Eq}
use Rattle.gh_base.specs.declared.atom.Lit.{Lit}
use Rattle.gh_base.specs.declared.sizes.Sizes.{Sizes}
use Rattle.gh_base.specs.Atoms.{opposite}
use Rattle.gh_base.specs.Meaning.{Interpretation, IsLitTrue, IsCongruence, IsEqualityClause}

-- what callers see of `Classes`: the literals that stand asserted, in order
pub record Asserted : Type 0 where
  pub sizes : Sizes
  pub lits : List Lit

-- neither the atom nor its negation stands asserted
abbrev pub IsUnasserted : List Lit → Atom → Type 0
IsUnasserted lits atom = All (λ l. l.atom ≢ atom) lits

abbrev pub equality : Term → Term → Lit
equality a b = record { atom = Eq a b; positive = true }

-- the asserted equalities are true
abbrev pub EqualitiesHold : Interpretation → List Lit → Type 0
EqualitiesHold m lits = (a b : Term) → Contains lits (equality a b) → m.class a.0 ≡ m.class b.0

-- wherever equality is a congruence and the asserted equalities are true, the two terms are equal
abbrev pub AreEqual : Asserted → Term → Term → Type 0
AreEqual s a b = (m : Interpretation) → IsCongruence s.sizes m → EqualitiesHold m s.lits → m.class a.0 ≡ m.class b.0

-- somewhere equality is a congruence and what is asserted is true
abbrev pub IsConsistent : Sizes → List Lit → Type 0
IsConsistent sizes lits = (m : Interpretation) × IsCongruence sizes m × All (IsLitTrue m) lits

-- a clause that follows from equality and congruence alone, whose literals are negations of asserted ones
pub record IsConflict (s : Asserted) (clause : List Lit) : Type 0 where
  pub follows : IsEqualityClause s.sizes clause
  pub refuted : All (λ l. Contains s.lits (opposite l)) clause

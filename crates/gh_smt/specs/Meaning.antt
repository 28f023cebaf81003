-- What a script means.
use Rattle.std.specs.Prelude.{◌≡◌, ℕ, List, Bool, true, false, IsTrue, All, Any, Contains}
use Rattle.gh_base.specs.declared.atom.Atom.{Atom}
use Rattle.gh_base.specs.declared.atom.Atom.TheVariants.{Eq, Btwn, Hop, Alloc, Def}
use Rattle.gh_base.specs.declared.atom.Lit.{Lit}
use Rattle.gh_base.specs.Grounds.{Problem}

-- the number of each location constant, the tuples of each version's relations, and the truth of each definition
pub record SmtModel : Type 0 where
  pub location : ℕ → ℕ
  pub between : ℕ → List (ℕ × ℕ × ℕ)
  pub hop : ℕ → List (ℕ × ℕ)
  pub alloc : ℕ → List ℕ
  pub def : ℕ → Bool

abbrev pub IsAtomTrue : SmtModel → Atom → Type 0
IsAtomTrue m (Eq a b) = m.location a.0 ≡ m.location b.0
IsAtomTrue m (Btwn v x y z) = Contains (m.between v) (m.location x.0, m.location y.0, m.location z.0)
IsAtomTrue m (Hop v x y) = Contains (m.hop v) (m.location x.0, m.location y.0)
IsAtomTrue m (Alloc v x) = Contains (m.alloc v) (m.location x.0)
IsAtomTrue m (Def number) = IsTrue (m.def number)

-- a fact, or that it doesn't hold
abbrev pub Signed : Bool → Type 0 → Type 0
Signed true P = P
Signed false P = P → ⊥

abbrev pub IsLitTrue : SmtModel → Lit → Type 0
IsLitTrue m l = Signed l.positive (IsAtomTrue m l.atom)

-- one of its literals is true
abbrev pub IsAssertionTrue : SmtModel → List Lit → Type 0
IsAssertionTrue m clause = Any (IsLitTrue m) clause

-- some interpretation makes all assertions true
abbrev pub IsSatisfiable : Problem → Type 0
IsSatisfiable p = (m : SmtModel) × All (IsAssertionTrue m) p.clauses

-- What literals and clauses mean: their truth in an interpretation, and interpretations whose equality is a congruence.
use Rattle.std.specs.Prelude.{ℕ, ◌≡◌, List, Bool, true, false, not, nat_eq, Any}
use Rattle.gh_base.specs.declared.atom.Term.{Term}
use Rattle.gh_base.specs.declared.atom.Atom.{Atom}
use Rattle.gh_base.specs.declared.atom.Atom.TheVariants.{Eq, Btwn, Hop, Alloc, Def}
use Rattle.gh_base.specs.declared.atom.Lit.{Lit}
use Rattle.gh_base.specs.declared.sizes.Sizes.{Sizes}
use Rattle.gh_base.specs.Atoms.{IsInRange, AreInRange}

-- the class of each term, by its number, and the truth of each atom other than an equality
pub record Interpretation : Type 0 where
  pub class : ℕ → ℕ
  pub table : Atom → Bool

-- an equality is true exactly for terms of one class
abbrev pub atom_truth : Interpretation → Atom → Bool
atom_truth m (Eq a b) = nat_eq (m.class a.0) (m.class b.0)
atom_truth m (Btwn v x y z) = m.table (Btwn v x y z)
atom_truth m (Hop v x y) = m.table (Hop v x y)
atom_truth m (Alloc v x) = m.table (Alloc v x)
atom_truth m (Def number) = m.table (Def number)

-- the truth of a positive or negative literal, from that of its atom
abbrev pub under : Bool → Bool → Bool
under true truth = truth
under false truth = not truth

abbrev pub lit_truth : Interpretation → Lit → Bool
lit_truth m l = under l.positive (atom_truth m l.atom)

abbrev pub IsLitTrue : Interpretation → Lit → Type 0
IsLitTrue m l = lit_truth m l ≡ true

-- some literal is true
abbrev pub IsClauseTrue : Interpretation → List Lit → Type 0
IsClauseTrue m clause = Any (IsLitTrue m) clause

-- an atom has the truth of the same atom over other terms of the same classes
pub record IsCongruence (s : Sizes) (m : Interpretation) : Type 0 where
  pub btwn : (v : ℕ) (x y z x' y' z' : Term) → IsInRange s (Btwn v x y z) → IsInRange s (Btwn v x' y' z')
      → m.class x.0 ≡ m.class x'.0 → m.class y.0 ≡ m.class y'.0 → m.class z.0 ≡ m.class z'.0
      → m.table (Btwn v x y z) ≡ m.table (Btwn v x' y' z')
  pub hop : (v : ℕ) (x y x' y' : Term) → IsInRange s (Hop v x y) → IsInRange s (Hop v x' y')
      → m.class x.0 ≡ m.class x'.0 → m.class y.0 ≡ m.class y'.0 → m.table (Hop v x y) ≡ m.table (Hop v x' y')
  pub alloc : (v : ℕ) (x x' : Term) → IsInRange s (Alloc v x) → IsInRange s (Alloc v x')
      → m.class x.0 ≡ m.class x'.0 → m.table (Alloc v x) ≡ m.table (Alloc v x')

-- the clause is true wherever equality is a congruence
abbrev pub IsEqualityValid : Sizes → List Lit → Type 0
IsEqualityValid s clause = (m : Interpretation) → IsCongruence s m → IsClauseTrue m clause

-- a clause over atoms in range that follows from equality and congruence alone
pub record IsEqualityClause (s : Sizes) (clause : List Lit) : Type 0 where
  pub in_range : AreInRange s clause
  pub follows : IsEqualityValid s clause

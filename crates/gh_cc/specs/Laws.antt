-- Laws of the structure of asserted literals.
use Rattle.std.specs.Prelude.{ℕ, ◌<◌, ◌≡◌, List, All}
use Rattle.gh_base.specs.declared.atom.Atom.{Atom}
use Rattle.gh_base.specs.declared.atom.Lit.{Lit}
use Rattle.gh_base.specs.declared.sizes.Sizes.{Sizes}
use Rattle.gh_base.specs.Atoms.{IsInRange, AreInRange}
use Rattle.gh_base.specs.Meaning.{Interpretation, IsLitTrue, IsCongruence, atom_truth}
use Rattle.gh_cc.specs.Asserted.{IsConsistent}
use Rattle.gh_cc.specs.Kept.{normal, IsRelation}
use Rattle.gh_cc.specs.Partials.{IsStructureOf}

-- the equality of the structure is a congruence
abbrev pub AreCongruences : Type 0
AreCongruences = (s : Sizes) (lits : List Lit) (m : Interpretation) → IsStructureOf s lits m → IsCongruence s m

-- where what is asserted is consistent, each asserted literal is true
abbrev pub AreAssertedTrue : Type 0
AreAssertedTrue = (s : Sizes) (lits : List Lit) (m : Interpretation) → IsStructureOf s lits m → AreInRange s lits
    → IsConsistent s lits → All (IsLitTrue m) lits

-- all structures of the same literals give each atom one truth
abbrev pub AreAlike : Type 0
AreAlike =
    (s : Sizes) (lits : List Lit) (m n : Interpretation) → AreInRange s lits → IsStructureOf s lits m
    → IsStructureOf s lits n
    → (a : Atom) → IsInRange s a → atom_truth m a ≡ atom_truth n a

-- an atom has the truth of the one over other terms of the same classes, as the least ones
abbrev pub AreLeastEnough : Type 0
AreLeastEnough =
    (s : Sizes) (m : Interpretation) (r : ℕ → ℕ) → IsCongruence s m
    → ((t : ℕ) → t < s.terms → (r t < s.terms) × (m.class (r t) ≡ m.class t))
    → (a : Atom) → IsInRange s a → IsRelation a → m.table (normal r a) ≡ m.table a

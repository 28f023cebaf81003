-- What ground formulas and their clauses mean in an interpretation.
use Rattle.std.specs.Prelude.{◌≡◌, ℕ, ◌<◌, List, Bool, true, false, not, ◌&&◌, ◌||◌, All}
use Rattle.gh_base.specs.declared.atom.Atom.{Atom}
use Rattle.gh_base.specs.declared.atom.Atom.TheVariants.{Eq, Btwn, Hop, Alloc, Def}
use Rattle.gh_base.specs.Meaning.{Interpretation, atom_truth, lit_truth, IsClauseTrue}
use Rattle.gh_grass.specs.Claims.{GroundFormula, atom, negation_of, conjunction_of, disjunction_of, equivalence_of}
use Rattle.gh_grass.specs.Claims.{GroundFormulas, no_ground_formulas, ground_formula_first}
use Rattle.gh_grass.specs.Clauses.{made, clauses_from}

-- both are true, or neither is
abbrev pub agree : Bool → Bool → Bool
agree true b = b
agree false b = not b

abbrev mutual
  pub truth : Interpretation → GroundFormula → Bool
  truth m (atom a) = atom_truth m a
  truth m (negation_of f) = not (truth m f)
  truth m (conjunction_of fs) = all_true m fs
  truth m (disjunction_of fs) = some_true m fs
  truth m (equivalence_of f g) = agree (truth m f) (truth m g)

  pub all_true : Interpretation → GroundFormulas → Bool
  all_true m no_ground_formulas = true
  all_true m (ground_formula_first f fs) = truth m f && all_true m fs

  pub some_true : Interpretation → GroundFormulas → Bool
  some_true m no_ground_formulas = false
  some_true m (ground_formula_first f fs) = truth m f || some_true m fs

abbrev pub AreTrue : Interpretation → List GroundFormula → Type 0
AreTrue m fs = All (λ f. truth m f ≡ true) fs

-- the atom is no definition, or one of a number below d
abbrev pub IsEarlier : ℕ → Atom → Type 0
IsEarlier d (Eq a b) = Unit {0}
IsEarlier d (Btwn v x y z) = Unit {0}
IsEarlier d (Hop v x y) = Unit {0}
IsEarlier d (Alloc v x) = Unit {0}
IsEarlier d (Def number) = number < d

-- each definition in the formula has a number below d
abbrev mutual
  pub HasEarlier : ℕ → GroundFormula → Type 0
  HasEarlier d (atom a) = IsEarlier d a
  HasEarlier d (negation_of f) = HasEarlier d f
  HasEarlier d (conjunction_of fs) = HaveEarlier d fs
  HasEarlier d (disjunction_of fs) = HaveEarlier d fs
  HasEarlier d (equivalence_of f g) = HasEarlier d f × HasEarlier d g

  pub HaveEarlier : ℕ → GroundFormulas → Type 0
  HaveEarlier d no_ground_formulas = Unit {0}
  HaveEarlier d (ground_formula_first f fs) = HasEarlier d f × HaveEarlier d fs

-- two interpretations that differ in definitions from d on alone
pub record IsOneBefore (d : ℕ) (m n : Interpretation) : Type 0 where
  pub class : n.class ≡ m.class
  pub table : (a : Atom) → IsEarlier d a → n.table a ≡ m.table a

-- where the defining clauses are true, the literal is true exactly where the formula is
abbrev pub LiteralsAreFormulas : Type 0
LiteralsAreFormulas =
    (m : Interpretation) (f : GroundFormula) (d : ℕ) → All (IsClauseTrue m) (made f d).clauses
    → lit_truth m (made f d).lit ≡ truth m f

-- where the clauses of some formulas are true, the formulas are
abbrev pub ClausesMeanFormulas : Type 0
ClausesMeanFormulas =
    (m : Interpretation) (fs : List GroundFormula) (d : ℕ) → All (IsClauseTrue m) (clauses_from fs d) → AreTrue m fs

-- the definitions can be given values that make all defining clauses true, whatever the earlier atoms are
abbrev pub DefinitionsExist : Type 0
DefinitionsExist =
    (m : Interpretation) (f : GroundFormula) (d : ℕ) → HasEarlier d f
    → (n : Interpretation) × IsOneBefore d m n × All (IsClauseTrue n) (made f d).clauses

-- where some formulas are true, their definitions can be given values that make all clauses true
abbrev pub FormulasGiveClauses : Type 0
FormulasGiveClauses =
    (m : Interpretation) (fs : List GroundFormula) (d : ℕ) → All (HasEarlier d) fs → AreTrue m fs
    → (n : Interpretation) × IsOneBefore d m n × All (IsClauseTrue n) (clauses_from fs d)

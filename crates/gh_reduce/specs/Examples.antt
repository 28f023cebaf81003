-- The clauses of the smallest program, and of one that gives one of two assertions.
use Rattle.std.specs.Prelude.{◌≡◌, ℕ, List, ◌++◌, ◌+◌, [], ◌∷◌, true, false}
use Rattle.gh_base.specs.declared.atom.Atom.TheVariants.{Hop, Alloc, Def}
use Rattle.gh_base.specs.declared.atom.Lit.{Lit}
use Rattle.gh_base.specs.Grounds.{Problem}
use Rattle.gh_base.specs.Atoms.{term}
use Rattle.gh_ast.specs.Plain.{empty, Program}
use Rattle.gh_path.specs.Examples.{at}
use Rattle.gh_symb.specs.Symbolic.{symbolic_of}
use Rattle.gh_symb.specs.Formulas.{problem}
use Rattle.gh_symb.specs.Examples.{nop, smallest, all_told}

-- the definition k is true
abbrev pub D : ℕ → Lit
D k = record { atom = Def k; positive = true }

abbrev pub not_D : ℕ → Lit
not_D k = record { atom = Def k; positive = false }

-- null is allocated; its cell leads to null
abbrev pub A : Lit
A = record { atom = Alloc 0 (term 0); positive = true }

abbrev pub not_A : Lit
not_A = record { atom = Alloc 0 (term 0); positive = false }

abbrev pub H : Lit
H = record { atom = Hop 0 (term 0) (term 0); positive = true }

abbrev pub not_H : Lit
not_H = record { atom = Hop 0 (term 0) (term 0); positive = false }

-- one term, one version, nine definitions
abbrev pub smallest_problem : Problem
smallest_problem =
    record {
      sizes = record { terms = 1; versions = 1; defs = 9 };
      clauses =
          (not_A ∷ [])
          ∷ (D 0 ∷ A ∷ [])
          ∷ (D 0 ∷ not_H ∷ [])
          ∷ (not_D 0 ∷ not_A ∷ H ∷ [])
          ∷ (D 0 ∷ [])
          ∷ (D 1 ∷ [])
          ∷ (not_D 2 ∷ [])
          ∷ (not_D 3 ∷ not_A ∷ D 2 ∷ [])
          ∷ (not_D 3 ∷ A ∷ not_D 2 ∷ [])
          ∷ (D 3 ∷ A ∷ D 2 ∷ [])
          ∷ (D 3 ∷ not_A ∷ not_D 2 ∷ [])
          ∷ (not_D 4 ∷ D 1 ∷ [])
          ∷ (not_D 4 ∷ D 3 ∷ [])
          ∷ (D 4 ∷ not_D 1 ∷ not_D 3 ∷ [])
          ∷ (D 4 ∷ [])
          ∷ (D 5 ∷ [])
          ∷ (not_D 6 ∷ [])
          ∷ (not_D 7 ∷ not_A ∷ D 6 ∷ [])
          ∷ (not_D 7 ∷ A ∷ not_D 6 ∷ [])
          ∷ (D 7 ∷ A ∷ D 6 ∷ [])
          ∷ (D 7 ∷ not_A ∷ not_D 6 ∷ [])
          ∷ (not_D 8 ∷ D 5 ∷ [])
          ∷ (not_D 8 ∷ D 7 ∷ [])
          ∷ (D 8 ∷ not_D 5 ∷ not_D 7 ∷ [])
          ∷ (not_D 8 ∷ [])
          ∷ [];
    }

abbrev pub SmallestHolds : Type 0
SmallestHolds = all_told (λ p c. problem (symbolic_of smallest p c)) smallest ≡ smallest_problem ∷ []

-- the whole heap meets `emp`, by four definitions from k on
abbrev pub meets_nothing : ℕ → List (List Lit)
meets_nothing k =
    (D k ∷ [])
    ∷ (not_D (k + 1) ∷ [])
    ∷ (not_D (k + 2) ∷ not_A ∷ D (k + 1) ∷ [])
    ∷ (not_D (k + 2) ∷ A ∷ not_D (k + 1) ∷ [])
    ∷ (D (k + 2) ∷ A ∷ D (k + 1) ∷ [])
    ∷ (D (k + 2) ∷ not_A ∷ not_D (k + 1) ∷ [])
    ∷ (not_D (k + 3) ∷ D k ∷ [])
    ∷ (not_D (k + 3) ∷ D (k + 2) ∷ [])
    ∷ (D (k + 3) ∷ not_D k ∷ not_D (k + 2) ∷ [])
    ∷ []

-- nothing is done, which gives `emp || emp`
abbrev pub two_ways : Program
two_ways = record { fields = []; close = at 1 32; procedures = record nop { gives = empty ∷ empty ∷ [] } ∷ [] }

-- it isn't so that the whole heap meets one of them
abbrev pub two_ways_problem : Problem
two_ways_problem =
    record {
      sizes = record { terms = 1; versions = 1; defs = 14 };
      clauses =
          ((not_A ∷ []) ∷ (D 0 ∷ A ∷ []) ∷ (D 0 ∷ not_H ∷ []) ∷ (not_D 0 ∷ not_A ∷ H ∷ []) ∷ (D 0 ∷ []) ∷ [])
          ++ meets_nothing 1
          ++ (D 4 ∷ []) ∷ []
          ++ meets_nothing 5
          ++ meets_nothing 9
          ++ (D 13 ∷ not_D 8 ∷ []) ∷ (D 13 ∷ not_D 12 ∷ []) ∷ (not_D 13 ∷ D 8 ∷ D 12 ∷ []) ∷ []
          ++ (not_D 13 ∷ []) ∷ [];
    }

abbrev pub TwoWaysHold : Type 0
TwoWaysHold = all_told (λ p c. problem (symbolic_of two_ways p c)) two_ways ≡ two_ways_problem ∷ []

-- Ground clauses that grow by those of some formulas.
use Rattle.std.specs.Prelude.{◌≡◌, ℕ, ◌+◌, ◌≤◌, List, ◌++◌, length}
use Rattle.gh_base.specs.declared.atom.Lit.{Lit}
use Rattle.gh_base.specs.declared.sizes.Sizes.{Sizes}
use Rattle.gh_base.specs.Atoms.{IsInRange}
use Rattle.gh_base.specs.Grounds.{Problem}
use Rattle.gh_grass.specs.Claims.{GroundFormula, atom, negation_of, conjunction_of, disjunction_of, equivalence_of}
use Rattle.gh_grass.specs.Claims.{GroundFormulas, no_ground_formulas, ground_formula_first}
use Rattle.gh_grass.specs.Clauses.{made, all_made, next_after, clauses_from}

-- the sizes with another number of definitions
abbrev pub sized : Sizes → ℕ → Sizes
sized s defs = record { terms = s.terms; versions = s.versions; defs = defs }

-- some clauses more, and `next` definitions in all
abbrev pub grown : Problem → ℕ → List (List Lit) → Problem
grown p next clauses = record { sizes = sized p.sizes next; clauses = p.clauses ++ clauses }

-- some clauses more
abbrev pub with_clauses : Problem → List (List Lit) → Problem
with_clauses p clauses = record p { clauses = p.clauses ++ clauses }

-- one definition more
abbrev pub with_definition : Problem → Problem
with_definition p = record p { sizes = sized p.sizes (p.sizes.defs + 1) }

-- the next definition, and the clauses of it
abbrev pub with_defined : Problem → (ℕ → List (List Lit)) → Problem
with_defined p f = grown p (p.sizes.defs + 1) (f p.sizes.defs)

-- after the definitions of a formula
abbrev pub defined_in : Problem → GroundFormula → Problem
defined_in p f = let r = made f p.sizes.defs in grown p r.next r.clauses

-- after those of some formulas
abbrev pub all_defined_in : Problem → GroundFormulas → Problem
all_defined_in p fs = let s = all_made fs p.sizes.defs in grown p s.next s.clauses

-- after some formulas were stated
abbrev pub stated_in : Problem → List GroundFormula → Problem
stated_in p fs = grown p (next_after fs p.sizes.defs) (clauses_from fs p.sizes.defs)

-- the terms, the versions and the clauses that were there stay; further clauses and definitions may have come
pub record IsGrown (old new : Problem) : Type 0 where
  pub terms : new.sizes.terms ≡ old.sizes.terms
  pub versions : new.sizes.versions ≡ old.sizes.versions
  pub further : List (List Lit)
  pub clauses : new.clauses ≡ old.clauses ++ further

-- there are no more definitions and clauses than are counted: the numbers of both are of 32 bits
abbrev pub IsCountable : Problem → Type 0
IsCountable p = (p.sizes.defs ≤ 4294967295) × (length p.clauses ≤ 4294967294)

-- each atom of the formula is in range
abbrev mutual
  pub IsWithin : Sizes → GroundFormula → Type 0
  IsWithin s (atom a) = IsInRange s a
  IsWithin s (negation_of f) = IsWithin s f
  IsWithin s (conjunction_of fs) = AreWithin s fs
  IsWithin s (disjunction_of fs) = AreWithin s fs
  IsWithin s (equivalence_of f g) = IsWithin s f × IsWithin s g

  pub AreWithin : Sizes → GroundFormulas → Type 0
  AreWithin s no_ground_formulas = Unit {0}
  AreWithin s (ground_formula_first f fs) = IsWithin s f × AreWithin s fs

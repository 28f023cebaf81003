-- The clauses of ground formulas. Each conjunction, disjunction and equivalence is defined anew.
use Rattle.std.specs.Prelude.{ℕ, ◌+◌, List, [], ◌∷◌, ◌++◌, map}
use Rattle.gh_base.specs.declared.atom.Atom.TheVariants.{Def}
use Rattle.gh_base.specs.declared.atom.Lit.{Lit}
use Rattle.gh_base.specs.Atoms.{opposite, positive}
use Rattle.gh_grass.specs.Claims.{GroundFormula, atom, negation_of, conjunction_of, disjunction_of, equivalence_of}
use Rattle.gh_grass.specs.Claims.{GroundFormulas, no_ground_formulas, ground_formula_first}

-- the literal of the definition d
abbrev pub defined : ℕ → Lit
defined d = positive (Def d)

-- the literal of a formula, the next free number of a definition, and the clauses that were made
pub record Made : Type 0 where
  pub lit : Lit
  pub next : ℕ
  pub clauses : List (List Lit)

-- the same for some formulas
pub record AllMade : Type 0 where
  pub lits : List Lit
  pub next : ℕ
  pub clauses : List (List Lit)

-- the definition d is true exactly where all literals are
abbrev pub conjunction_clauses : ℕ → List Lit → List (List Lit)
conjunction_clauses d ls = map (λ l. opposite (defined d) ∷ l ∷ []) ls ++ (defined d ∷ map opposite ls) ∷ []

-- the definition d is true exactly where one of the literals is
abbrev pub disjunction_clauses : ℕ → List Lit → List (List Lit)
disjunction_clauses d ls = map (λ l. defined d ∷ opposite l ∷ []) ls ++ (opposite (defined d) ∷ ls) ∷ []

-- the definition d is true exactly where both literals are, or neither is
abbrev pub equivalence_clauses : ℕ → Lit → Lit → List (List Lit)
equivalence_clauses d l m =
    (opposite (defined d) ∷ opposite l ∷ m ∷ [])
    ∷ (opposite (defined d) ∷ l ∷ opposite m ∷ [])
    ∷ (defined d ∷ l ∷ m ∷ [])
    ∷ (defined d ∷ opposite l ∷ opposite m ∷ [])
    ∷ []

-- the conjunction of some formulas, defined with the next number
abbrev pub conjoined : AllMade → Made
conjoined s = record {
  lit = defined s.next;
  next = s.next + 1;
  clauses = s.clauses ++ conjunction_clauses s.next s.lits;
}

abbrev pub disjoined : AllMade → Made
disjoined s = record {
  lit = defined s.next;
  next = s.next + 1;
  clauses = s.clauses ++ disjunction_clauses s.next s.lits;
}

abbrev pub equated : Made → Made → Made
equated r s = record {
  lit = defined s.next;
  next = s.next + 1;
  clauses = (r.clauses ++ s.clauses) ++ equivalence_clauses s.next r.lit s.lit;
}

-- a formula before others that were made after it
abbrev pub put_first : Made → AllMade → AllMade
put_first r s = record { lits = r.lit ∷ s.lits; next = s.next; clauses = r.clauses ++ s.clauses }

-- what is made of a formula, where d is the next free number of a definition
abbrev mutual
  pub made : GroundFormula → ℕ → Made
  made (atom a) d = record { lit = positive a; next = d; clauses = [] }
  made (negation_of f) d = let r = made f d in record { lit = opposite r.lit; next = r.next; clauses = r.clauses }
  made (conjunction_of fs) d = conjoined (all_made fs d)
  made (disjunction_of fs) d = disjoined (all_made fs d)
  made (equivalence_of f g) d = let r = made f d in equated r (made g r.next)

  pub all_made : GroundFormulas → ℕ → AllMade
  all_made no_ground_formulas d = record { lits = []; next = d; clauses = [] }
  all_made (ground_formula_first f fs) d = let r = made f d in put_first r (all_made fs r.next)

-- the formula's definitions, and that it is true
abbrev pub stated : Made → List (List Lit)
stated r = r.clauses ++ (r.lit ∷ []) ∷ []

-- the next free number after some formulas
abbrev pub next_after : List GroundFormula → ℕ → ℕ
next_after [] d = d
next_after (f ∷ fs) d = next_after fs (made f d).next

-- the clauses of some formulas, one after the other
abbrev pub clauses_from : List GroundFormula → ℕ → List (List Lit)
clauses_from [] d = []
clauses_from (f ∷ fs) d = let r = made f d in stated r ++ clauses_from fs r.next

-- the clauses of a list of formulas, and how many definitions they have
abbrev pub clauses_of : List GroundFormula → List (List Lit)
clauses_of fs = clauses_from fs 0

abbrev pub definitions_of : List GroundFormula → ℕ
definitions_of fs = next_after fs 0

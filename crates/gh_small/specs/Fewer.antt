-- The clauses that say: fewer than k classes of the first n terms are allocated in version 0.
-- Definitions are numbered from d on: first one for each term, then k for each term.
use Rattle.std.specs.Prelude.{ℕ, zero, suc, ◌+◌, ◌-◌, ◌*◌, List, [], ◌∷◌, ◌++◌}
use Rattle.gh_base.specs.declared.atom.Atom.{Atom}
use Rattle.gh_base.specs.declared.atom.Atom.TheVariants.{Eq, Alloc, Def}
use Rattle.gh_base.specs.declared.atom.Lit.{Lit}
use Rattle.gh_base.specs.Atoms.{term, positive, negative}

-- the lists of the numbers below n, one after the other
abbrev pub each : {A : Type 0} → ℕ → (ℕ → List A) → List A
each zero f = []
each (suc n) f = each n f ++ f n

abbrev pub is_allocated : ℕ → Atom
is_allocated t = Alloc 0 (term t)

-- that t is allocated and equal to no term before it
abbrev pub leader : ℕ → ℕ → Atom
leader d t = Def (d + t)

-- that more than j of the terms up to t are leaders
abbrev pub counter : ℕ → ℕ → ℕ → ℕ → ℕ → Atom
counter n d k t j = Def (d + n + t * k + j)

-- that a term before t equals t
abbrev pub earlier : ℕ → List Lit
earlier t = each t (λ u. positive (Eq (term u) (term t)) ∷ [])

-- t leads, isn't allocated, or equals an earlier term
abbrev pub leader_clause : ℕ → ℕ → List Lit
leader_clause d t = positive (leader d t) ∷ negative (is_allocated t) ∷ earlier t

-- where t leads, more than 0 of the terms up to t are leaders
abbrev pub begins : ℕ → ℕ → ℕ → ℕ → List Lit
begins n d k t = positive (counter n d k t 0) ∷ negative (leader d t) ∷ []

-- where the term after t leads, the terms up to it have one leader more than those up to t
abbrev pub raises : ℕ → ℕ → ℕ → ℕ → ℕ → List Lit
raises n d k t j =
    positive (counter n d k (suc t) (suc j)) ∷ negative (leader d (suc t)) ∷ negative (counter n d k t j) ∷ []

-- the terms up to the one after t have no fewer leaders than those up to t
abbrev pub keeps : ℕ → ℕ → ℕ → ℕ → ℕ → List Lit
keeps n d k t j = positive (counter n d k (suc t) j) ∷ negative (counter n d k t j) ∷ []

-- the clauses of the counter of t and j
abbrev pub counter_clauses : ℕ → ℕ → ℕ → ℕ → ℕ → List (List Lit)
counter_clauses n d k zero zero = begins n d k 0 ∷ []
counter_clauses n d k zero (suc j) = []
counter_clauses n d k (suc t) zero = begins n d k (suc t) ∷ keeps n d k t 0 ∷ []
counter_clauses n d k (suc t) (suc j) = raises n d k t j ∷ keeps n d k t (suc j) ∷ []

abbrev pub all_leaders : ℕ → ℕ → List (List Lit)
all_leaders n d = each n (λ t. leader_clause d t ∷ [])

-- the clauses of the k counters of t
abbrev pub counter_row : ℕ → ℕ → ℕ → ℕ → List (List Lit)
counter_row n d k t = each k (counter_clauses n d k t)

abbrev pub all_counters : ℕ → ℕ → ℕ → List (List Lit)
all_counters n d k = each n (counter_row n d k)

-- fewer than k of the n terms are leaders
abbrev pub last_clause : ℕ → ℕ → ℕ → List Lit
last_clause n d k = negative (counter n d k (n - 1) (k - 1)) ∷ []

abbrev pub fewer : ℕ → ℕ → ℕ → List (List Lit)
fewer n d k = all_leaders n d ++ all_counters n d k ++ last_clause n d k ∷ []

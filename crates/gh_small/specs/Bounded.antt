-- Ground clauses that also say: fewer than k classes are allocated in version 0.
use Rattle.std.specs.Prelude.{ℕ, ◌+◌, ◌*◌, ◌^◌, ◌<◌, ◌≤◌, ◌≡◌, ◌++◌, List, length}
use Rattle.gh_base.specs.declared.atom.Lit.{Lit}
use Rattle.gh_base.specs.declared.sizes.Sizes.{Sizes}
use Rattle.gh_base.specs.Grounds.{Problem}
use Rattle.gh_reduce.specs.Growth.{with_clauses}
use Rattle.gh_small.specs.declared.bounding.Numbers.{Numbers}
use Rattle.gh_small.specs.Fewer.{fewer}

-- the clauses are added last
abbrev pub Gains : Problem → Problem → List (List Lit) → Type 0
Gains old new cs = new ≡ with_clauses old cs

-- 32 bits number the clauses with those that are added
abbrev pub HasRoomFor : Problem → List (List Lit) → Type 0
HasRoomFor p cs = length p.clauses + length cs ≤ 4294967294

-- with so many definitions more
abbrev pub with_defs : Problem → ℕ → Problem
with_defs p more = record p { sizes = record p.sizes { defs = p.sizes.defs + more } }

-- the number of definitions with the new ones: a leader and k counters for each term
abbrev pub defs_after : Sizes → ℕ → ℕ
defs_after s k = s.defs + s.terms + s.terms * k

-- the problem with the clauses that say: fewer than k classes are allocated in version 0
abbrev pub bounded_by : Problem → ℕ → Problem
bounded_by p k = record {
  sizes = record p.sizes { defs = defs_after p.sizes k };
  clauses = p.clauses ++ fewer p.sizes.terms p.sizes.defs k;
}

-- 32 bits number the clauses and the definitions of the problem that is bounded by k
pub record HasRoom (p : Problem) (k : ℕ) : Type 0 where
  pub clauses : length (bounded_by p k).clauses ≤ 4294967294
  pub defs : defs_after p.sizes k < 2 ^ 32

-- 32 bits number the new definitions, and each term has a counter
pub record IsNumbered (c : Numbers) : Type 0 where
  pub some : 1 ≤ c.cells
  pub room : c.first + c.terms + c.terms * c.cells < 2 ^ 32

-- the sizes have these terms, some version, and the new definitions
pub record AreSizes (c : Numbers) (s : Sizes) : Type 0 where
  pub terms : s.terms ≡ c.terms
  pub versions : 1 ≤ s.versions
  pub defs : c.first + c.terms + c.terms * c.cells ≤ s.defs

-- Scripts: numbers of constants and relations, and the clauses that are asserted of them.
use Rattle.std.specs.Prelude.{ℕ, ◌+◌, ◌*◌, ◌^◌, ◌≤◌, List, ◌++◌, length, map, All}
use Rattle.gh_base.specs.declared.atom.Lit.{Lit}
use Rattle.gh_base.specs.declared.sizes.Sizes.{Sizes}
use Rattle.gh_base.specs.Atoms.{AreInRange}
use Rattle.gh_base.specs.Grounds.{Problem}
use Rattle.gh_inst.specs.Instances.{instances, clause_of}

abbrev pub HasLits : List Lit → Type 0
HasLits clause = 1 ≤ length clause

-- the numbers of terms, versions and definitions are in the range of a script
pub record IsSized (s : Sizes) : Type 0 where
  pub terms : s.terms ≤ 255
  pub versions : s.versions ≤ 255
  pub defs : s.defs ≤ 4294967295

-- a script that has a text: no clause is empty, and all atoms are in range
pub record IsScript (p : Problem) : Type 0 where
  pub sized : IsSized p.sizes
  pub lits : All HasLits p.clauses
  pub in_range : All (AreInRange p.sizes) p.clauses

-- how many instances of the axioms there are over n terms and so many versions
abbrev pub instance_count : ℕ → ℕ → ℕ
instance_count n versions = versions * (n + 5 * n ^ 2 + 5 * n ^ 3 + 4 * n ^ 4)

-- how many assertions the script of a condition has
abbrev pub assertion_count : Problem → ℕ
assertion_count p = length p.clauses + instance_count p.sizes.terms p.sizes.versions

-- the script of a condition: its clauses by number, then all instances in order
abbrev pub script_of : Problem → Problem
script_of p =
    record { sizes = p.sizes; clauses = p.clauses ++ map clause_of (instances p.sizes.terms p.sizes.versions) }

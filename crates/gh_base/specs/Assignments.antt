-- Partial assignments, by the number of each atom.
use Rattle.std.specs.Prelude.{◌≡◌, ◌≢◌, ◌≤◌, List, Bool, Option, None, length, slice_index_or, slice_set, option_map}
use Rattle.gh_base.specs.declared.atom.Atom.{Atom}
use Rattle.gh_base.specs.declared.atom.Lit.{Lit}
use Rattle.gh_base.specs.declared.sizes.Sizes.{Sizes}
use Rattle.gh_base.specs.Atoms.{IsInRange, number_of, count_of}
use Rattle.gh_base.specs.Meaning.{under}

-- what callers see of an `Assignment`: by the number of each atom its truth, if it has one
pub record Partial : Type 0 where
  pub sizes : Sizes
  pub values : List (Option Bool)

-- there is an entry for each atom in range, and there are at most 4294967294 atoms
pub record IsPartial (p : Partial) : Type 0 where
  pub all : length p.values ≡ count_of p.sizes
  pub room : count_of p.sizes ≤ 4294967294

-- the truth of an atom
abbrev pub value_at : Partial → Atom → Option Bool
value_at p atom = slice_index_or p.values (number_of p.sizes atom) None

-- the truth of a literal
abbrev pub value_of : Partial → Lit → Option Bool
value_of p l = option_map (under l.positive) (value_at p l.atom)

-- the assignment after an atom got a truth, or lost it
abbrev pub with_value : Partial → Atom → Option Bool → Partial
with_value p atom value = record p { values = slice_set p.values (number_of p.sizes atom) value }

-- one atom has this truth, and each other one keeps its own
pub record ChangesAtom (old new : Partial) (atom : Atom) (value : Option Bool) : Type 0 where
  pub sizes : new.sizes ≡ old.sizes
  pub changed : value_at new atom ≡ value
  pub others : (a : Atom) → IsInRange old.sizes a → a ≢ atom → value_at new a ≡ value_at old a

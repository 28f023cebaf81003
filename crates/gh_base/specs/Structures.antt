-- Structures: classes of terms, and tables of truth.
use Rattle.std.specs.Prelude.{◌≡◌, ◌≢◌, ◌≤◌, ◌<◌, ℕ, List, Bool, false, length, slice_index_or, slice_set, Option}
use Rattle.std.specs.Prelude.{unwrap_or}
use Rattle.gh_base.specs.declared.atom.Term.{Term}
use Rattle.gh_base.specs.declared.atom.Atom.{Atom}
use Rattle.gh_base.specs.declared.atom.Atom.TheVariants.{Eq, Btwn, Hop, Alloc, Def}
use Rattle.gh_base.specs.declared.sizes.Sizes.{Sizes}
use Rattle.gh_base.specs.Atoms.{IsInRange, number_of, count_of}
use Rattle.gh_base.specs.Meaning.{Interpretation, atom_truth}

-- what callers see of a `Structure`: the class of each term, and by the number of each atom its truth
pub record Tables : Type 0 where
  pub sizes : Sizes
  pub classes : List Term
  pub table : List Bool

-- the class of a term; a term past the list is its own class
abbrev pub class_at : List Term → ℕ → ℕ
class_at classes t = (slice_index_or classes t (record { 0 = t })).0

-- each class is named by its least term, which is no greater than its terms and is itself in the class
pub record AreClasses (classes : List Term) : Type 0 where
  pub least : (t : ℕ) → t < length classes → class_at classes t ≤ t
  pub own : (t : ℕ) → t < length classes → class_at classes (class_at classes t) ≡ class_at classes t

pub record AreTables (s : Tables) : Type 0 where
  pub terms : length s.classes ≡ s.sizes.terms
  pub some : 1 ≤ s.sizes.terms
  pub versions : 1 ≤ s.sizes.versions
  pub classes : AreClasses s.classes
  pub all : length s.table ≡ count_of s.sizes

-- what a structure means
abbrev pub interpretation_of : Tables → Interpretation
interpretation_of s = record {
  class = class_at s.classes;
  table = λ atom. slice_index_or s.table (number_of s.sizes atom) false;
}

abbrev pub IsEquality : Atom → Type 0
IsEquality (Eq a b) = Unit {0}
IsEquality (Btwn v x y z) = ⊥
IsEquality (Hop v x y) = ⊥
IsEquality (Alloc v x) = ⊥
IsEquality (Def number) = ⊥

-- the tables with this truth at the atom's number
abbrev pub with_truth : Tables → Atom → Bool → Tables
with_truth s atom value = record s { table = slice_set s.table (number_of s.sizes atom) value }

-- the truth that is there, or false
abbrev pub known_truth : Option Bool → Bool
known_truth value = unwrap_or value false

-- one atom has this truth, and each other one keeps its own
pub record ChangesTruth (old new : Tables) (atom : Atom) (value : Bool) : Type 0 where
  pub sizes : new.sizes ≡ old.sizes
  pub classes : new.classes ≡ old.classes
  pub changed : atom_truth (interpretation_of new) atom ≡ value
  pub others : (a : Atom) → IsInRange old.sizes a → a ≢ atom
      → atom_truth (interpretation_of new) a ≡ atom_truth (interpretation_of old) a

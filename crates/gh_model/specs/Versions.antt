-- The versions of an interpretation, as structures.
use Rattle.std.specs.Prelude.{ℕ, ◌<◌, Bool, nat_eq, IsTrue}
use Rattle.gh_base.specs.declared.atom.Atom.TheVariants.{Btwn, Hop, Alloc}
use Rattle.gh_base.specs.Meaning.{Interpretation}
use Rattle.gh_base.specs.Atoms.{term}
use Rattle.gh_model.specs.Structures.{HeapStructure}

abbrev pub equal_in : Interpretation → ℕ → ℕ → Bool
equal_in m x y = nat_eq (m.class x) (m.class y)

abbrev pub version_of : Interpretation → ℕ → HeapStructure
version_of m i =
    record {
      between = λ x y z. m.table (Btwn i (term x) (term y) (term z));
      hop = λ x v. m.table (Hop i (term x) (term v));
      alloc = λ x. m.table (Alloc i (term x));
    }

-- null is not allocated, and what is allocated hops to one of the first n terms
pub record HasHops (n : ℕ) (m : HeapStructure) : Type 0 where
  pub null : IsTrue (m.alloc 0) → ⊥
  pub hops : (x : ℕ) → x < n → IsTrue (m.alloc x) → (v : ℕ) × (v < n) × IsTrue (m.hop x v)

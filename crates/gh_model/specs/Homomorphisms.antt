-- The ground formulas of an assertion, read over the values of terms.
use Rattle.std.specs.Prelude.{◌≡◌, ◌↔◌, ℕ, ◌<◌, List, ◌∷◌, map, IsTrue, Contains}
use Rattle.gh_base.specs.declared.atom.Term.{Term}
use Rattle.gh_base.specs.declared.atom.Atom.TheVariants.{Btwn, Hop, Alloc}
use Rattle.gh_base.specs.declared.sizes.Sizes.{Sizes}
use Rattle.gh_base.specs.Meaning.{Interpretation}
use Rattle.gh_base.specs.Atoms.{term, terms_below}
use Rattle.gh_inst.specs.Violations.{AreInstancesTrue}
use Rattle.gh_ast.specs.Plain.{Assertion, empty, comparison, points_to, cell, segment, star, cases, Assertions}
use Rattle.gh_ast.specs.Plain.{no_assertions, assertion_first}
use Rattle.gh_ast.specs.Programs.{Name}
use Rattle.gh_ast.specs.Names.{AssertionIn}
use Rattle.gh_assert.specs.Meaning.{Store}
use Rattle.gh_grass.specs.Claims.{GroundFormula, atom, equivalence_of, all_of}
use Rattle.gh_grass.specs.Footprints.{Variables, footprint, structure}
use Rattle.gh_grass.specs.Truth.{truth}
use Rattle.gh_model.specs.Structures.{HeapStructure, IsModelOver}
use Rattle.gh_model.specs.Representations.{IsInside, Fits, FitsWhole}
use Rattle.gh_model.specs.Versions.{equal_in}

-- `at` maps n terms onto V, null to null, and version i of the interpretation says of terms what the structure says of
-- their values
pub record IsHomomorphism (m : Interpretation) (i n : ℕ) (at : ℕ → ℕ) (V : List ℕ) (M : HeapStructure) : Type 0 where
  pub some : 0 < n
  pub null : at 0 ≡ 0
  pub named : (t : ℕ) → t < n → Contains V (at t)
  pub made_for : (v : ℕ) → Contains V v → (t : ℕ) × (t < n) × (at t ≡ v)
  pub equal : (x y : ℕ) → x < n → y < n → IsTrue (equal_in m x y) ↔ (at x ≡ at y)
  pub alloc : (x : ℕ) → x < n → IsTrue (m.table (Alloc i (term x))) ↔ IsTrue (M.alloc (at x))
  pub hop : (x v : ℕ) → x < n → v < n → IsTrue (m.table (Hop i (term x) (term v))) ↔ IsTrue (M.hop (at x) (at v))
  pub between : (x y z : ℕ) → x < n → y < n → z < n
      → IsTrue (m.table (Btwn i (term x) (term y) (term z))) ↔ IsTrue (M.between (at x) (at y) (at z))

-- the names have terms with the store's values
abbrev pub HaveTerms : Variables → ℕ → (ℕ → ℕ) → Store → List Name → Type 0
HaveTerms b n at st xs = (x : Name) → Contains xs x → ((b x).0 < n) × (at (b x).0 ≡ st x)

-- `next` gives one of n terms for x, and where there is a cell at x, it hops to the value of that term
abbrev pub HasNext : Variables → (Term → Term) → ℕ → (ℕ → ℕ) → HeapStructure → Name → Type 0
HasNext b next n at M x =
    ((next (b x)).0 < n) × (IsTrue (M.alloc (at (b x).0)) → IsTrue (M.hop (at (b x).0) (at (next (b x)).0)))

-- Q holds of each variable x for which the assertion says what the cell at x contains
abbrev mutual
  pub AtCells : (Name → Type 0) → Assertion → Type 0
  AtCells Q empty = Unit {0}
  AtCells Q (comparison l e r) = Unit {0}
  AtCells Q (points_to x y) = Q x.name
  AtCells Q (cell x) = Unit {0}
  AtCells Q (segment x y) = Unit {0}
  AtCells Q (star fs) = AtAllCells Q fs
  AtCells Q (cases t f g) = AtCells Q f × AtCells Q g

  pub AtAllCells : (Name → Type 0) → Assertions → Type 0
  AtAllCells Q no_assertions = Unit {0}
  AtAllCells Q (assertion_first f fs) = AtCells Q f × AtAllCells Q fs

-- some part of the heap meets the assertion, and each of n terms is allocated exactly where it is in the footprint
abbrev pub whole_of : Variables → (Term → Term) → ℕ → ℕ → Assertion → GroundFormula
whole_of b next i n f =
    all_of (structure b next i n f ∷ map (λ z. equivalence_of (atom (Alloc i z)) (footprint b i z f)) (terms_below n))

-- a homomorphism keeps the three formulas: they say of the terms what the structure says of the values
pub record IsPreserved (m : Interpretation) (i n : ℕ) (at : ℕ → ℕ) (V : List ℕ) (M : HeapStructure) (b : Variables)
    (next : Term → Term) (st : Store) (f : Assertion) : Type 0 where
  pub footprint : (z : ℕ) → z < n → IsTrue (truth m (footprint b i (term z) f)) ↔ IsInside f st M (at z)
  pub part : IsTrue (truth m (structure b next i n f)) ↔ Fits f st M V
  pub whole : IsTrue (truth m (whole_of b next i n f)) ↔ FitsWhole f st M V

abbrev pub FormulasArePreserved : Type 0
FormulasArePreserved =
    (m : Interpretation) (i n : ℕ) (at : ℕ → ℕ) (V : List ℕ) (M : HeapStructure) (b : Variables) (next : Term → Term)
    (st : Store) (xs : List Name) (f : Assertion) → IsModelOver V M → IsHomomorphism m i n at V M →
    AssertionIn f xs → HaveTerms b n at st xs → AtCells (HasNext b next n at M) f → IsPreserved m i n at V M b next st f

-- where each version maps onto a model, all instances of the axioms are true
abbrev pub InstancesHold : Type 0
InstancesHold =
    (s : Sizes) (m : Interpretation) (at : ℕ → ℕ) (V : List ℕ) (M : ℕ → HeapStructure)
    → ((i : ℕ) → i < s.versions → IsModelOver V (M i) × IsHomomorphism m i s.terms at V (M i))
    → AreInstancesTrue s m

-- The laws.
use Rattle.std.specs.Prelude.{◌≡◌, ◌⊎◌, ◌↔◌, ℕ, ◌<◌, List, Bool, Some, None, IsTrue, Contains}
use Rattle.std.specs.FinMap.{get}
use Rattle.gh_ast.specs.Plain.{Assertion}
use Rattle.gh_assert.specs.Heaps.{Heap}
use Rattle.gh_assert.specs.Meaning.{Store}
use Rattle.gh_assert.specs.Walks.{succ}
use Rattle.gh_assert.specs.Ownership.{Owned}
use Rattle.gh_assert.specs.Reading.{HasNames}
use Rattle.gh_assert.specs.Laws.{IsReadOff, Rows, LinkRows}
use Rattle.gh_base.specs.declared.sizes.Sizes.{Sizes}
use Rattle.gh_base.specs.Meaning as congruence
use Rattle.gh_base.specs.Meaning.{Interpretation}
use Rattle.gh_inst.specs.Violations.{AreInstancesTrue}
use Rattle.gh_model.specs.Versions.{equal_in, version_of, HasHops}
use Rattle.gh_model.specs.Structures.{HeapStructure, IsOrdered, IsLinked, KeepsAxioms, IsModelOver}
use Rattle.gh_model.specs.BuiltHeaps.{built}
use Rattle.gh_model.specs.Operands.{IsNamed}
use Rattle.gh_model.specs.Representations.{Represents, AgreeOn}
use Rattle.gh_model.specs.Classes.{IsCongruence, HasClasses}
use Rattle.gh_model.specs.Transitions.{StepsByWrite, StepsByNew, StepsByFree, StepsByCall, IsPut, IsFreed, IsCalled}

-- a value hops to one value at most
abbrev pub HopsAgree : Type 0
HopsAgree =
    (V : List ℕ) (m : HeapStructure) → IsModelOver V m → (x v w : ℕ) → Contains V x → Contains V v → Contains V w
    → IsTrue (m.hop x v) → IsTrue (m.hop x w) → v ≡ w

-- the cells of the built heap are the hops, all of them at values of V
abbrev pub ContentsAreHops : Type 0
ContentsAreHops =
    (V : List ℕ) (m : HeapStructure) → IsModelOver V m → (x v : ℕ)
    → (get (built V m) x ≡ Some v) ↔ (Contains V x × Contains V v × IsTrue (m.hop x v))

-- the structure represents its built heap, and that heap is owned
pub record IsBuilt (V : List ℕ) (m : HeapStructure) : Type 0 where
  pub null : get (built V m) 0 ≡ None
  pub owned : Owned V (built V m)
  pub represents : Represents V (built V m) m

abbrev pub ModelsAreBuilt : Type 0
ModelsAreBuilt = (V : List ℕ) (m : HeapStructure) → IsModelOver V m → IsBuilt V m

-- what represents an owned heap keeps the axioms
abbrev pub HeapsAreModels : Type 0
HeapsAreModels =
    (V : List ℕ) (h : Heap) (m : HeapStructure) → Contains V 0 → get h 0 ≡ None → Owned V h → Represents V h m
    → IsModelOver V m

-- assertions on the built heap can be read off the values of V
abbrev pub BuiltIsRead : Type 0
BuiltIsRead =
    (V : List ℕ) (m : HeapStructure) (s : Store) (f : Assertion) → IsModelOver V m → IsNamed f s V
    → IsReadOff V (built V m) s f

-- a structure agrees on each assertion with a heap that it represents
abbrev pub AssertionsAgree : Type 0
AssertionsAgree =
    (V : List ℕ) (h : Heap) (m : HeapStructure) (s : Store) (f : Assertion) → get h 0 ≡ None → Owned V h
    → Represents V h m → HasNames f s h V → AgreeOn V h m s f

-- a model agrees on each assertion with its built heap
abbrev pub BuiltAgrees : Type 0
BuiltAgrees =
    (V : List ℕ) (m : HeapStructure) (s : Store) (f : Assertion) → IsModelOver V m → IsNamed f s V
    → AgreeOn V (built V m) m s f

-- what x hops to where x is allocated, and x itself where it isn't, is the successor of x in the built heap
abbrev pub NextIsSuccessor : Type 0
NextIsSuccessor =
    (V : List ℕ) (m : HeapStructure) → IsModelOver V m → (x t : ℕ) → Contains V x → Contains V t
    → (IsTrue (m.alloc x) → IsTrue (m.hop x t)) → IsTrue (m.alloc x) ⊎ (x ≡ t) → succ (built V m) x ≡ t

-- two built heaps are one step apart where their structures are
abbrev pub WritesAreBuilt : Type 0
WritesAreBuilt =
    (V : List ℕ) (m n : HeapStructure) → IsModelOver V m → IsModelOver V n → (x v : ℕ) → Contains V x → Contains V v
    → StepsByWrite V m n x v → IsPut (built V m) (built V n) x v

abbrev pub NewsAreBuilt : Type 0
NewsAreBuilt =
    (V : List ℕ) (m n : HeapStructure) → IsModelOver V m → IsModelOver V n → (x v : ℕ) → Contains V x → Contains V v
    → StepsByNew V m n x v → (get (built V m) x ≡ None) × IsPut (built V m) (built V n) x v

abbrev pub FreesAreBuilt : Type 0
FreesAreBuilt =
    (V : List ℕ) (m n : HeapStructure) → IsModelOver V m → IsModelOver V n → (x : ℕ) → Contains V x
    → StepsByFree V m n x → IsFreed (built V m) (built V n) x

abbrev pub CallsAreBuilt : Type 0
CallsAreBuilt =
    (V : List ℕ) (m n : HeapStructure) (p q : Assertion) (s t : Store) → IsModelOver V m → IsModelOver V n
    → IsNamed p s V → IsNamed q t V → StepsByCall V m n p q s t → IsCalled (built V m) (built V n) p q s t

-- a structure on terms, whose equality is a congruence and which keeps the axioms, is a model over its classes
abbrev pub ClassesAreModels : Type 0
ClassesAreModels =
    (equal : ℕ → ℕ → Bool) (n : ℕ) (m : HeapStructure) → 0 < n → IsCongruence equal n m
    → KeepsAxioms (λ t. t < n) (λ x y. IsTrue (equal x y)) m → HasClasses equal n m

-- some structure represents an owned heap
abbrev pub RepresentationsExist : Type 0
RepresentationsExist = (V : List ℕ) (h : Heap) → get h 0 ≡ None → Owned V h → (m : HeapStructure) × Represents V h m

-- a version of an interpretation in which all instances of the axioms are true keeps them over the terms
abbrev pub InstancesAreKept : Type 0
InstancesAreKept =
    (s : Sizes) (m : Interpretation) (i : ℕ) → i < s.versions → AreInstancesTrue s m → HasHops s.terms (version_of m i)
    → KeepsAxioms (λ t. t < s.terms) (λ x y. IsTrue (equal_in m x y)) (version_of m i)

-- and where equality is a congruence, the classes of its terms are a model
abbrev pub VersionsAreModels : Type 0
VersionsAreModels =
    (s : Sizes) (m : Interpretation) (i : ℕ) → i < s.versions → 0 < s.terms → congruence.IsCongruence s m
    → AreInstancesTrue s m → HasHops s.terms (version_of m i) → HasClasses (equal_in m) s.terms (version_of m i)

-- the rows that betweenness keeps in a heap are the ten rows of a structure over all values
abbrev pub RowsAreTheOrder : Type 0
RowsAreTheOrder =
    (m : HeapStructure) → Rows (λ x y z. IsTrue (m.between x y z)) ↔ IsOrdered (λ x. Unit {0}) (λ x y. x ≡ y) m

-- 0 is no cell, and among what N holds of, what reaches another is a cell, and each cell has a hop
pub record KeepsCells (N : ℕ → Type 0) (E : ℕ → ℕ → Type 0) (m : HeapStructure) : Type 0 where
  pub row_13 : (x y : ℕ) → N x → N y → IsTrue (m.between x y y) → IsTrue (m.alloc x) ⊎ (E x y)
  pub null : IsTrue (m.alloc 0) → ⊥
  pub hops : (x : ℕ) → N x → IsTrue (m.alloc x) → (v : ℕ) × N v × IsTrue (m.hop x v)

-- the rows that hops keep in a heap, of the hops of a structure among what N holds of
abbrev pub LinkRowsOf : (ℕ → Type 0) → (ℕ → ℕ → Type 0) → HeapStructure → Type 0
LinkRowsOf N E m =
    LinkRows N E (λ x y z. IsTrue (m.between x y z)) (λ x v. N x × N v × IsTrue (m.hop x v)) (λ x. IsTrue (m.alloc x))

-- these rows, with row 13, no cell at 0 and a hop from each cell, are the links of a structure
abbrev pub AreLinks : (ℕ → Type 0) → (ℕ → ℕ → Type 0) → HeapStructure → Type 0
AreLinks N E m = (LinkRowsOf N E m × KeepsCells N E m) ↔ IsLinked N E m

-- this is so of a structure on values, and of one on terms
pub record RowsAreTheLinks : Type 0 where
  pub values : (V : List ℕ) (m : HeapStructure) → AreLinks (Contains V) (λ x y. x ≡ y) m
  pub terms : (equal : ℕ → ℕ → Bool) (n : ℕ) (m : HeapStructure) → AreLinks (λ t. t < n) (λ x y. IsTrue (equal x y)) m

-- equality is a congruence of an interpretation exactly where it is one of each version
abbrev pub CongruencesAreOfVersions : Type 0
CongruencesAreOfVersions =
    (s : Sizes) (m : Interpretation)
    → congruence.IsCongruence s m ↔ ((i : ℕ) → i < s.versions → IsCongruence (equal_in m) s.terms (version_of m i))

-- Terms are numbers below n. A class is named by its least term.
use Rattle.std.specs.Prelude.{◌≡◌, ◌↔◌, ℕ, zero, suc, ◌<◌, List, [], ◌∷◌, map, Bool, IsTrue, Contains}
use Rattle.gh_model.specs.Structures.{HeapStructure, IsModelOver}
use Rattle.gh_model.specs.BuiltHeaps.{first}

-- the n numbers from k on, in order
abbrev pub numbers : ℕ → ℕ → List ℕ
numbers k zero = []
numbers k (suc n) = k ∷ numbers (suc k) n

-- the least of n terms that equals t
abbrev pub class_of : (ℕ → ℕ → Bool) → ℕ → ℕ → ℕ
class_of equal n t = first (equal t) (numbers 0 n)

-- the class of each of n terms, in order
abbrev pub classes : (ℕ → ℕ → Bool) → ℕ → List ℕ
classes equal n = map (class_of equal n) (numbers 0 n)

-- equality is an equivalence, and what a structure says is the same of equal terms
pub record IsCongruence (equal : ℕ → ℕ → Bool) (n : ℕ) (m : HeapStructure) : Type 0 where
  pub itself : (x : ℕ) → x < n → IsTrue (equal x x)
  pub back : (x y : ℕ) → x < n → y < n → IsTrue (equal x y) → IsTrue (equal y x)
  pub on : (x y z : ℕ) → x < n → y < n → z < n → IsTrue (equal x y) → IsTrue (equal y z) → IsTrue (equal x z)
  pub alloc : (x y : ℕ) → x < n → y < n → IsTrue (equal x y) → IsTrue (m.alloc x) → IsTrue (m.alloc y)
  pub hop : (x y v w : ℕ) → x < n → y < n → v < n → w < n → IsTrue (equal x y) → IsTrue (equal v w) → IsTrue (m.hop x v)
      → IsTrue (m.hop y w)
  pub between : (x x' y y' z z' : ℕ) → x < n → x' < n → y < n → y' < n → z < n → z' < n → IsTrue (equal x x')
      → IsTrue (equal y y') → IsTrue (equal z z') → IsTrue (m.between x y z) → IsTrue (m.between x' y' z')

-- the classes of n terms are a model, and the structure says of terms what it says of their classes
pub record HasClasses (equal : ℕ → ℕ → Bool) (n : ℕ) (m : HeapStructure) : Type 0 where
  pub model : IsModelOver (classes equal n) m
  pub named : (t : ℕ) → t < n → Contains (classes equal n) (class_of equal n t)
  pub own : (c : ℕ) → Contains (classes equal n) c → (c < n) × (class_of equal n c ≡ c)
  pub null : class_of equal n 0 ≡ 0
  pub agrees : (x y : ℕ) → x < n → y < n → IsTrue (equal x y) ↔ (class_of equal n x ≡ class_of equal n y)
  pub alloc : (x : ℕ) → x < n → IsTrue (m.alloc x) ↔ IsTrue (m.alloc (class_of equal n x))
  pub hop : (x v : ℕ) → x < n → v < n → IsTrue (m.hop x v) ↔ IsTrue (m.hop (class_of equal n x) (class_of equal n v))
  pub between : (x y z : ℕ) → x < n → y < n → z < n
      → IsTrue (m.between x y z) ↔ IsTrue (m.between (class_of equal n x) (class_of equal n y) (class_of equal n z))

-- The trace of an interpretation of a condition's terms.
use Rattle.std.specs.Prelude.{◌≡◌, ℕ, zero, suc, ◌<◌, List, [], ◌∷◌, length, Option, Some, None, Bool, not, ◌&&◌, ◌==◌}
use Rattle.std.specs.Prelude.{cond, Contains}
use Rattle.std.specs.FinMap.{empty, insert, get}
use Rattle.gh_base.specs.Meaning.{Interpretation}
use Rattle.gh_ast.specs.Plain.{Procedure, Program}
use Rattle.gh_ast.specs.Rules.{IsTyped}
use Rattle.gh_assert.specs.Heaps.{Heap}
use Rattle.gh_assert.specs.Meaning.{Store}
use Rattle.gh_path.specs.Graphs.{PathStep}
use Rattle.gh_path.specs.Conditions.{Condition, IsCondition, IsOf}
use Rattle.gh_path.specs.Terms.{Bindings}
use Rattle.gh_symb.specs.Symbolic.{symbolic_of}
use Rattle.gh_model.specs.Abstraction.{IsModelOf}
use Rattle.gh_trace.specs.Traces.{State}
use Rattle.gh_trace.specs.Validity.{AreCounterexample}
use Rattle.gh_model.specs.BuiltHeaps.{first}
use Rattle.gh_model.specs.Classes.{numbers, class_of, classes}
use Rattle.gh_model.specs.Versions.{equal_in, version_of}
use Rattle.gh_model.specs.TermValues.{path_version}
use Rattle.gh_model.specs.Depictions.{IsHeapDepicted}

-- the value of a variable: that of its term, or 0 where it has none
abbrev pub value_under : (ℕ → ℕ) → Option ℕ → ℕ
value_under at None = 0
value_under at (Some t) = at t

-- the values of all variables, where `at` gives those of terms
abbrev pub store_under : (ℕ → ℕ) → Bindings → Store
store_under at b x = value_under at (b x)

-- a cell stands at x: x isn't null, is the least of n terms of its class, and is allocated in version i
abbrev pub stands_at : Interpretation → ℕ → ℕ → ℕ → Bool
stands_at m n i x = not (x == 0) && ((class_of (equal_in m) n x == x) && (version_of m i).alloc x)

-- its content is the class of the least of n terms that it hops to; it is null where there is none
abbrev pub content_at : Interpretation → ℕ → ℕ → ℕ → ℕ
content_at m n i x = class_of (equal_in m) n (first ((version_of m i).hop x) (numbers 0 n))

-- cells at the numbers below n that pass a test
abbrev pub cells_below : (ℕ → Bool) → (ℕ → ℕ) → ℕ → Heap
cells_below stands to zero = empty
cells_below stands to (suc k) = cond (stands k) (insert (cells_below stands to k) k (to k)) (cells_below stands to k)

-- the heap of version i over n terms
abbrev pub heap_in : Interpretation → ℕ → ℕ → Heap
heap_in m n i = cells_below (stands_at m n i) (content_at m n i) n

-- the heap of a version, and the values of the variables' terms
abbrev pub state_under : Interpretation → ℕ → ℕ → Bindings → State
state_under m n i b = record { store = store_under (class_of (equal_in m) n) b; heap = heap_in m n i }

-- the version of the heap in each state, from version i on
abbrev pub versions_along : ℕ → List PathStep → List ℕ
versions_along i [] = i ∷ []
versions_along i (p ∷ ps) = i ∷ versions_along (path_version p i) ps

-- a state for each version and the terms of the variables there
abbrev pub states_under : Interpretation → ℕ → List ℕ → List Bindings → List State
states_under m n [] bs = []
states_under m n (i ∷ is) [] = []
states_under m n (i ∷ is) (b ∷ bs) = state_under m n i b ∷ states_under m n is bs

-- a term's value is its class, which is named by its least term
abbrev pub built_trace : Program → Procedure → Condition → Interpretation → List State
built_trace P proc c m =
    states_under m (length (symbolic_of P proc c).terms) (versions_along 0 c.way.steps) (symbolic_of P proc c).bindings

-- the trace of a model of a condition is a counterexample
abbrev pub LocalityHolds : Type 0
LocalityHolds =
    (P : Program) (proc : Procedure) (c : Condition) (m : Interpretation) → IsTyped P → IsCondition P c → IsOf P c proc
    → IsModelOf P proc c m →
    AreCounterexample P c (built_trace P proc c m)

-- a heap that version i depicts over the values V: its cells stand at values and contain values
pub record IsVersionBuilt (V : List ℕ) (m : Interpretation) (i : ℕ) (h : Heap) : Type 0 where
  pub proper : get h 0 ≡ None
  pub named : (x v : ℕ) → get h x ≡ Some v → Contains V x × Contains V v
  pub depicted : IsHeapDepicted V m i h

-- in each version of a model of a condition the cells form a heap whose places are those that are allocated, whose
-- contents are the hops, and whose Between is that of the version; the values are the classes of the terms
abbrev pub VersionsAreBuilt : Type 0
VersionsAreBuilt =
    (P : Program) (proc : Procedure) (c : Condition) (m : Interpretation) (i : ℕ) → IsModelOf P proc c m
    → i < (symbolic_of P proc c).versions →
    let n = length (symbolic_of P proc c).terms in IsVersionBuilt (classes (equal_in m) n) m i (heap_in m n i)

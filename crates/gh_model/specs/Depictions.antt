-- What an interpretation says of the heaps of a trace.
use Rattle.std.specs.Prelude.{◌≡◌, ◌↔◌, ℕ, List, [], ◌∷◌, slice_get, Some, Decides}
use Rattle.gh_base.specs.declared.atom.Atom.TheVariants.{Btwn, Hop as HopAtom, Alloc}
use Rattle.gh_base.specs.Meaning.{Interpretation, atom_truth}
use Rattle.gh_base.specs.Atoms.{term}
use Rattle.gh_ast.specs.Plain.{Procedure, Program}
use Rattle.gh_ast.specs.Rules.{IsTyped}
use Rattle.gh_assert.specs.Heaps.{Heap}
use Rattle.gh_assert.specs.Walks.{Allocated, Between}
use Rattle.gh_assert.specs.Hops.{Hop}
use Rattle.gh_path.specs.Graphs as path
use Rattle.gh_path.specs.Conditions.{Condition, IsCondition, IsOf}
use Rattle.gh_trace.specs.Traces.{State}
use Rattle.gh_model.specs.TermValues.{path_version, AreTermValues}
use Rattle.gh_trace.specs.Validity.{IsCounterexample}
use Rattle.gh_model.specs.Abstraction.{IsModelOf}

-- the atoms of a version say of terms what is so of their values in the heap
pub record IsHeapDepicted (V : List ℕ) (m : Interpretation) (i : ℕ) (h : Heap) : Type 0 where
  pub alloc : (t x : ℕ) → slice_get V t ≡ Some x → Decides (atom_truth m (Alloc i (term t))) (Allocated h x)
  pub between : (t u w x y z : ℕ) → slice_get V t ≡ Some x → slice_get V u ≡ Some y → slice_get V w ≡ Some z
      → Decides (atom_truth m (Btwn i (term t) (term u) (term w))) (Between h x y z)
  pub hop : (t u x v : ℕ) → slice_get V t ≡ Some x → slice_get V u ≡ Some v
      → Decides (atom_truth m (HopAtom i (term t) (term u))) (Hop V h x v)

-- the heaps of the states of a path are depicted by their versions, that of the first state x by version i
abbrev pub AreHeapsDepicted : List ℕ → Interpretation → List path.PathStep → ℕ → State → List State → Type 0
AreHeapsDepicted V m [] i x ys = IsHeapDepicted V m i x.heap
AreHeapsDepicted V m (p ∷ ps) i x [] = ⊥
AreHeapsDepicted V m (p ∷ ps) i x (y ∷ ys) =
    IsHeapDepicted V m i x.heap × AreHeapsDepicted V m ps (path_version p i) y ys

-- terms of one class are those of one value, and each version depicts the heap of its states
pub record IsTraceDepicted (c : Condition) (x : State) (ys : List State) (V : List ℕ)
    (m : Interpretation) : Type 0 where
  pub classes : (t u v w : ℕ) → slice_get V t ≡ Some v → slice_get V u ≡ Some w → (m.class t ≡ m.class u) ↔ (v ≡ w)
  pub along : AreHeapsDepicted V m c.way.steps 0 x ys

-- a counterexample gives a model of the condition that depicts its heaps
abbrev pub TracesAreDepicted : Type 0
TracesAreDepicted =
    (P : Program) (proc : Procedure) (c : Condition) (x : State) (ys : List State) (V : List ℕ) → IsTyped P
    → IsCondition P c → IsOf P c proc → IsCounterexample P proc c x ys → AreTermValues P proc c x ys V →
    (m : Interpretation) × IsModelOf P proc c m × IsTraceDepicted c x ys V m

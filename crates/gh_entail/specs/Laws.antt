-- The laws.
use Rattle.std.specs.Prelude.{◌≡◌, ◌↔◌, ℕ, List, length, slice_get, Some, Contains, Decides}
use Rattle.gh_base.specs.declared.atom.Atom.TheVariants.{Btwn, Hop, Alloc}
use Rattle.gh_base.specs.Meaning.{Interpretation, atom_truth}
use Rattle.gh_base.specs.Atoms.{term}
use Rattle.gh_inst.specs.Models.{IsModel}
use Rattle.gh_log.specs.Lines.{LogLine}
use Rattle.gh_log.specs.Sections.{IsValidSection}
use Rattle.gh_ast.specs.Plain.{Assertion}
use Rattle.gh_ast.specs.Programs.{Name}
use Rattle.gh_assert.specs.Heaps.{Heap, IsProper}
use Rattle.gh_assert.specs.Meaning.{Store}
use Rattle.gh_assert.specs.Walks.{succ, Allocated, Between}
use Rattle.gh_path.specs.Terms.{next}
use Rattle.gh_model.specs.Structures.{HeapStructure, IsModelOver}
use Rattle.gh_model.specs.BuiltHeaps.{built}
use Rattle.gh_model.specs.Classes.{class_of}
use Rattle.gh_model.specs.Versions.{equal_in}
use Rattle.gh_model.specs.BuiltTraces.{store_under, heap_in}
use Rattle.gh_ast.specs.Questions.{Question}
use Rattle.gh_entail.specs.Meaning.{IsEntailed, Fails}
use Rattle.gh_entail.specs.Terms.{question_walked}
use Rattle.gh_entail.specs.Formulas.{question_problem}
use Rattle.gh_entail.specs.Alike.{LooksLike, IsShown}
use Rattle.gh_entail.specs.Hops.{Heads, Depicts}

-- one value is enough to show whether an assertion is met: its witness
abbrev pub WitnessesExist : Type 0
WitnessesExist =
    (f : Assertion) (s : Store) (h : Heap) → IsProper h → (z : ℕ) × ((V : List ℕ) → Contains V z → IsShown V f s h)

-- each heap is depicted by some structure, owned or not
abbrev pub DepictionsExist : Type 0
DepictionsExist = (V : List ℕ) (h : Heap) → IsProper h → (m : HeapStructure) × Depicts V h m

-- which keeps the axioms
abbrev pub DepictionsAreModels : Type 0
DepictionsAreModels =
    (V : List ℕ) (h : Heap) (m : HeapStructure) → IsProper h → Contains V 0 → Depicts V h m → IsModelOver V m

-- and whose built heap, which is owned, looks like the heap
abbrev pub DepictionsLookAlike : Type 0
DepictionsLookAlike =
    (V : List ℕ) (h : Heap) (m : HeapStructure) → IsProper h → Contains V 0 → Depicts V h m → LooksLike V h (built V m)

-- a model of the clauses of the question and of the axioms
abbrev pub IsModelOf : Question → Interpretation → Type 0
IsModelOf q m = IsModel (question_problem q) m

-- the variables have the classes of their terms (one without a term has 0)
abbrev pub store_from : Question → Interpretation → Store
store_from q m = store_under (class_of (equal_in m) (length (question_walked q).kinds)) (question_walked q).bindings

-- a cell at each class other than null's that is allocated, with the class that it hops to
abbrev pub heap_from : Question → Interpretation → Heap
heap_from q m = heap_in m (length (question_walked q).kinds) 0

-- No: a model gives a store and a heap in which the question fails
abbrev pub ModelsFail : Type 0
ModelsFail = (q : Question) (m : Interpretation) → IsModelOf q m → Fails q (store_from q m) (heap_from q m)

-- a value for each term: null, the successor of an earlier term's value, what the store gives a variable; the values of
-- witnesses are free
pub record AreValues (q : Question) (s : Store) (h : Heap) (V : List ℕ) : Type 0 where
  pub count : length V ≡ length (question_walked q).kinds
  pub null : slice_get V 0 ≡ Some 0
  pub follows : (t i u v : ℕ) → slice_get (question_walked q).kinds t ≡ Some (next i u) → slice_get V u ≡ Some v
      → slice_get V t ≡ Some (succ h v)
  pub bound : (y : Name) (t : ℕ) → (question_walked q).bindings y ≡ Some t → slice_get V t ≡ Some (s y)

-- terms of one class are those of one value, and the atoms say of terms what is so of their values
pub record IsDepicted (V : List ℕ) (h : Heap) (m : Interpretation) : Type 0 where
  pub classes : (t u v w : ℕ) → slice_get V t ≡ Some v → slice_get V u ≡ Some w → (m.class t ≡ m.class u) ↔ (v ≡ w)
  pub alloc : (t x : ℕ) → slice_get V t ≡ Some x → Decides (atom_truth m (Alloc 0 (term t))) (Allocated h x)
  pub between : (t u w x y z : ℕ) → slice_get V t ≡ Some x → slice_get V u ≡ Some y → slice_get V w ≡ Some z
      → Decides (atom_truth m (Btwn 0 (term t) (term u) (term w))) (Between h x y z)
  pub hop : (t u x v : ℕ) → slice_get V t ≡ Some x → slice_get V u ≡ Some v
      → Decides (atom_truth m (Hop 0 (term t) (term u))) (Heads V h x v)

-- Yes: a store and a heap in which the question fails give values for the terms and a model that depicts the heap
abbrev pub FailuresAreDepicted : Type 0
FailuresAreDepicted =
    (q : Question) (s : Store) (h : Heap) → IsProper h → Fails q s h
    → (V : List ℕ) × AreValues q s h V × ((m : Interpretation) × IsModelOf q m × IsDepicted V h m)

-- they give a model also where the heap has a cell at null
abbrev pub FailuresGiveModels : Type 0
FailuresGiveModels = (q : Question) (s : Store) (h : Heap) → Fails q s h → (m : Interpretation) × IsModelOf q m

-- so a question whose clauses have a valid section is entailed
abbrev pub SectionsShowEntailment : Type 0
SectionsShowEntailment =
    (q : Question) (lines : List LogLine) → IsValidSection (question_problem q) lines → IsEntailed q

-- and it is entailed exactly where there is no model
abbrev pub ModelsDecide : Type 0
ModelsDecide = (q : Question) → IsEntailed q ↔ ((m : Interpretation) → IsModelOf q m → ⊥)

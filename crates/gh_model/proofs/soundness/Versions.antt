-- The versions of a trace's heap, and the structures that represent them.
use Rattle.std.specs.Prelude.{ℕ, List}
use Rattle.gh_assert.specs.Heaps.{Heap, IsProper}
use Rattle.gh_assert.specs.Ownership.{Owned}
use Rattle.gh_path.specs.Terms.{Kind}
use Rattle.gh_model.specs.Structures.{HeapStructure, IsModelOver}
use Rattle.gh_model.specs.Representations.{Represents}
use Rattle.gh_model.proofs.soundness.WalkValues.{IsKindValuation}

-- all that is known of a trace's versions
pub record AreVersions (V : List ℕ) (K : List Kind) (H : ℕ → Heap) (M : ℕ → HeapStructure) : Type 0 where
  pub kinds : IsKindValuation H V K
  pub proper : (i : ℕ) → IsProper (H i)
  pub owned : (i : ℕ) → Owned V (H i)
  pub represents : (i : ℕ) → Represents V (H i) (M i)
  pub models : (i : ℕ) → IsModelOver V (M i)

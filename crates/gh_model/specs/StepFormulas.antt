-- The formulas of a step, read over the values of terms.
use Rattle.std.specs.Prelude.{◌↔◌, ℕ, ◌+◌, ◌<◌, List, [], ◌∷◌, length}
use Rattle.gh_base.specs.Meaning.{Interpretation}
use Rattle.gh_base.specs.Atoms.{term}
use Rattle.gh_assert.specs.Meaning.{Store}
use Rattle.gh_grass.specs.Truth.{AreTrue}
use Rattle.gh_path.specs.Terms.{Kind}
use Rattle.gh_symb.specs.Symbolic.{Under}
use Rattle.gh_symb.specs.Formulas.{variables, successor, write_formulas, new_formulas, free_formulas, part_formulas}
use Rattle.gh_model.specs.Structures.{HeapStructure}
use Rattle.gh_model.specs.Transitions.{StepsByWrite, StepsByNew, StepsByFree, StepsByCall}
use Rattle.gh_model.specs.Homomorphisms.{IsHomomorphism, IsPreserved}

-- where n terms map onto the values of M in version i and of N in version i + 1, the formulas of a step are true
-- exactly where N is one such step after M
abbrev pub WritesArePreserved : Type 0
WritesArePreserved =
    (m : Interpretation) (i n : ℕ) (at : ℕ → ℕ) (V : List ℕ) (M N : HeapStructure) → IsHomomorphism m i n at V M
    → IsHomomorphism m (i + 1) n at V N → (x e : ℕ) → x < n → e < n →
    AreTrue m (write_formulas n i (term x) (term e)) ↔ StepsByWrite V M N (at x) (at e)

abbrev pub NewsArePreserved : Type 0
NewsArePreserved =
    (m : Interpretation) (i n : ℕ) (at : ℕ → ℕ) (V : List ℕ) (M N : HeapStructure) → IsHomomorphism m i n at V M
    → IsHomomorphism m (i + 1) n at V N → (l c : ℕ) → l < n → c < n →
    AreTrue m (new_formulas n i (term l) (term c)) ↔ StepsByNew V M N (at l) (at c)

abbrev pub FreesArePreserved : Type 0
FreesArePreserved =
    (m : Interpretation) (i n : ℕ) (at : ℕ → ℕ) (V : List ℕ) (M N : HeapStructure) → IsHomomorphism m i n at V M
    → IsHomomorphism m (i + 1) n at V N → (x : ℕ) → x < n →
    AreTrue m (free_formulas n i (term x)) ↔ StepsByFree V M N (at x)

-- the same of a call or a loop: a part u gives way to a part q
abbrev pub CallsArePreserved : Type 0
CallsArePreserved =
    (m : Interpretation) (at : ℕ → ℕ) (V : List ℕ) (M N : HeapStructure) (ks : List Kind) (u q : Under) (s t : Store)
    → IsHomomorphism m u.version (length ks) at V M → IsHomomorphism m (u.version + 1) (length ks) at V N →
    IsPreserved m u.version (length ks) at V M (variables u.binding) (successor ks u.version) s u.assertion →
    IsPreserved m q.version (length ks) at V N (variables q.binding) (successor ks q.version) t q.assertion →
    AreTrue m (part_formulas ks u.version u (q ∷ [])) ↔ StepsByCall V M N u.assertion q.assertion s t

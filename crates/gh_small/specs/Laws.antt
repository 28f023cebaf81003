-- The laws.
use Rattle.std.specs.Prelude.{ℕ, ◌+◌, ◌-◌, ◌*◌, ◌<◌, ◌≤◌, ◌≡◌, ◌≢◌, ◌↔◌, List, length, true, All, AllPairs, Contains}
use Rattle.std.specs.FinMap.{len}
use Rattle.gh_base.specs.declared.sizes.Sizes.{Sizes}
use Rattle.gh_base.specs.Meaning.{Interpretation, IsClauseTrue, IsCongruence}
use Rattle.gh_base.specs.Grounds.{Problem, IsProblem}
use Rattle.gh_ast.specs.Plain.{Procedure, Program}
use Rattle.gh_ast.specs.Rules.{IsTyped}
use Rattle.gh_path.specs.Conditions.{Condition, IsCondition, IsOf}
use Rattle.gh_grass.specs.Truth.{IsOneBefore}
use Rattle.gh_symb.specs.Symbolic.{symbolic_of}
use Rattle.gh_symb.specs.Formulas.{problem}
use Rattle.gh_log.specs.Lines.{LogLine}
use Rattle.gh_log.specs.Sections.{IsValidSection}
use Rattle.gh_trace.specs.Traces.{State}
use Rattle.gh_trace.specs.Validity.{IsCounterexample}
use Rattle.gh_small.specs.Fewer.{is_allocated, fewer}
use Rattle.gh_small.specs.Leaders.{allocated_classes}
use Rattle.gh_small.specs.Bounded.{bounded_by}
use Rattle.gh_inst.specs.Models.{IsModel}
use Rattle.gh_small.specs.Smallest.{IsLeast}

-- where the clauses are true, fewer than k classes are allocated
abbrev pub FewerIsSound : Type 0
FewerIsSound =
    (m : Interpretation) (n d k : ℕ) → 1 ≤ n → 1 ≤ k → All (IsClauseTrue m) (fewer n d k) → allocated_classes m n < k

-- where fewer than k are, truths of the new definitions make the clauses true
abbrev pub FewerIsPossible : Type 0
FewerIsPossible =
    (m : Interpretation) (n d k : ℕ) → 1 ≤ n → 1 ≤ k → allocated_classes m n < k
    → (w : Interpretation) × IsOneBefore d m w × All (IsClauseTrue w) (fewer n d k)

-- how many clauses there are
abbrev pub FewerIsCounted : Type 0
FewerIsCounted = (n d k : ℕ) → 1 ≤ n → 1 ≤ k → length (fewer n d k) ≡ n + (n - 1) * (2 * k) + 2

-- the values are the classes of the allocated ones of the first n terms
abbrev pub AreAllocated : Interpretation → ℕ → List ℕ → Type 0
AreAllocated m n values =
    (v : ℕ) → Contains values v ↔ ((t : ℕ) × (t < n) × (m.table (is_allocated t) ≡ true) × (m.class t ≡ v))

-- where equality is a congruence, `allocated_classes` is the number of distinct classes of allocated terms
abbrev pub ClassesAreCounted : Type 0
ClassesAreCounted =
    (s : Sizes) (m : Interpretation) (values : List ℕ) → 1 ≤ s.versions → IsCongruence s m
    → AllPairs (λ a b. a ≢ b) values → AreAllocated m s.terms values
    → allocated_classes m s.terms ≡ length values

-- without a congruence: where terms have values, those of one value are of one class, and each allocated term has a
-- value of the list, there are no more allocated classes than values in the list
abbrev pub ClassesAreFew : Type 0
ClassesAreFew =
    (m : Interpretation) (at : ℕ → ℕ) (n : ℕ) (values : List ℕ)
    → ((t u : ℕ) → t < n → u < n → at t ≡ at u → m.class t ≡ m.class u)
    → ((t : ℕ) → t < n → m.table (is_allocated t) ≡ true → Contains values (at t))
    → allocated_classes m n ≤ length values

-- a model of the bounded clauses is one of the clauses, with fewer than k allocated classes
abbrev pub BoundedIsSound : Type 0
BoundedIsSound =
    (p : Problem) (k : ℕ) (m : Interpretation) → IsProblem p → 1 ≤ k → IsModel (bounded_by p k) m
    → IsModel p m × (allocated_classes m p.sizes.terms < k)

-- and a model with fewer than k of them becomes one of the bounded clauses by truths of the new definitions alone
abbrev pub BoundedIsPossible : Type 0
BoundedIsPossible =
    (p : Problem) (k : ℕ) (m : Interpretation) → IsProblem p → 1 ≤ k → IsModel p m
    → allocated_classes m p.sizes.terms < k
    → (w : Interpretation) × IsOneBefore p.sizes.defs m w × IsModel (bounded_by p k) w

-- a counterexample with fewer than k cells in its first heap gives a model of the bounded clauses of its condition
abbrev pub SmallTracesAreModels : Type 0
SmallTracesAreModels =
    (P : Program) (proc : Procedure) (c : Condition) (x : State) (ys : List State) (k : ℕ) → IsTyped P → IsCondition P c
    → IsOf P c proc
    → IsProblem (problem (symbolic_of P proc c)) → 1 ≤ k → IsCounterexample P proc c x ys → len x.heap < k
    → (m : Interpretation) × IsModel (bounded_by (problem (symbolic_of P proc c)) k) m

-- so where a section is valid for these clauses, no counterexample has fewer than k cells in its first heap
abbrev pub SectionsShowLeast : Type 0
SectionsShowLeast =
    (P : Program) (proc : Procedure) (c : Condition) (lines : List LogLine) (k : ℕ) → IsTyped P → IsCondition P c
    → IsOf P c proc
    → IsProblem (problem (symbolic_of P proc c)) → 1 ≤ k
    → IsValidSection (bounded_by (problem (symbolic_of P proc c)) k) lines → IsLeast P c k

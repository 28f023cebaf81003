-- Cells of the first heap of a structure, and models of bounded clauses.
use Rattle.std.proofs.Common.{◌≡◌, ◌≢◌, ◌⊎◌, inl, inr, ℕ, ◌<◌, ◌≤◌, List, true, false, length, sym, ap, ◌∙◌, subst}
use Rattle.std.proofs.Common.{arith}
use Rattle.std.specs.Prelude.{◌==◌}
use Rattle.std.specs.FinMap.{len, entries, len-entries}
use Rattle.std.proofs.lemmas.List.{length-map}
use Rattle.std.proofs.lemmas.Bool.{cases_Bool, eqb-true, false≢true}
use Rattle.gh_base.specs.Grounds.{Problem, IsProblem}
use Rattle.gh_base.specs.Structures.{Tables, AreTables, class_at, interpretation_of}
use Rattle.gh_assert.specs.Heaps.{Heap}
use Rattle.gh_assert.specs.Cells.{pairs}
use Rattle.gh_assert.specs.declared.heap.Cell.{Cell}
use Rattle.gh_ground.specs.Solving.{IsModelOf, IsRefutationOf}
use Rattle.gh_log.specs.declared.lines.Section.{Section}
use Rattle.gh_model.specs.BuiltTraces.{stands_at, content_at}
use Rattle.gh_model.proofs.building.Heaps.{stands_apart, other_not, alloc_stands}
use Rattle.gh_small.specs.Leaders.{leads, allocated_classes}
use Rattle.gh_small.specs.Bounded.{bounded_by, HasRoom}
use Rattle.gh_small.specs.Models.{IsModelled, HasRoomBelow, first_heap, IsLower}
use Rattle.gh_small.proofs.HeapLemmas.{counted_cells}
use Rattle.gh_small.proofs.ModelLemmas.{bounded_sound}
use Rattle.gh_small.proofs.RoomLemmas.{classes_below}
use Rattle.gh_small.proofs.CounterLemmas.{counted_within}
use Rattle.gh_small.proofs.StructureLemmas.{leads_own}

module _ (s : Tables) (w : AreTables s) where
  -- a term with a cell leads its class
  stands_leads : (t : ℕ) → t < s.sizes.terms → stands_at (interpretation_of s) s.sizes.terms 0 t ≡ true
      → leads (interpretation_of s) t ≡ true
  stands_leads t lt on = elim (cases_Bool (class_at s.classes t == t)) as (λ _. leads (interpretation_of s) t ≡ true) [
    | inl own ↦
        let is : class_at s.classes t ≡ t = eqb-true (class_at s.classes t) t own in
        let apart : t ≢ 0 = stands_apart (interpretation_of s) s.sizes.terms 0 t on in
        leads_own s w t lt is ∙ alloc_stands s w 0 t lt apart is ∙ on
    | inr other ↦ absurd (false≢true (other_not s w 0 t lt (λ e. no t other e) ∙ on))
  ]
    where
      no : (t : ℕ) → (class_at s.classes t == t) ≡ false → class_at s.classes t ≡ t → ⊥
      no t off e = grind (arith, off, e)

  -- so no more cells stand in the first heap than classes are allocated
  pub few_cells : len (first_heap s) ≤ allocated_classes (interpretation_of s) s.sizes.terms
  few_cells =
      let m = interpretation_of s in
      let n = s.sizes.terms in
      let all = counted_cells (stands_at m n 0) (content_at m n 0) n in
      let within = counted_within (stands_at m n 0) (leads m) n stands_leads in
      omega (arith, all, within)

  pub cells_fit : len (first_heap s) ≤ s.sizes.terms
  cells_fit = omega (arith, few_cells, classes_below (interpretation_of s) s.sizes.terms)

-- what the solver finds is a model
pub first_model : (p : Problem) (s : Tables) → IsModelOf p s → IsModelled p s
first_model p s is = record {
  terms = ap (λ z. z.terms) is.sizes;
  versions = ap (λ z. z.versions) is.sizes;
  model = record { congruence = is.congruence; instances = is.instances; clauses = is.clauses };
}

-- a model of bounded clauses is one of the clauses
pub next_model : (p : Problem) (k : ℕ) (s : Tables) → IsProblem p → 1 ≤ k → IsModelOf (bounded_by p k) s
    → IsModelled p s
next_model p k s known some is = record {
  terms = ap (λ z. z.terms) is.sizes;
  versions = ap (λ z. z.versions) is.sizes;
  model = (bounded_sound p k (interpretation_of s) known some
      (record { congruence = is.congruence; instances = is.instances; clauses = is.clauses })).0;
}

-- with fewer cells
pub next_below : (p : Problem) (k cells : ℕ) (s : Tables) → IsProblem p → 1 ≤ k → IsModelOf (bounded_by p k) s
    → cells ≤ allocated_classes (interpretation_of s) s.sizes.terms → cells < k
next_below p k cells s known some is few =
    let terms : s.sizes.terms ≡ p.sizes.terms = ap (λ z. z.terms) is.sizes in
    let same = ap (allocated_classes (interpretation_of s)) terms in
    let bound = (bounded_sound p k (interpretation_of s) known some
    (record { congruence = is.congruence; instances = is.instances; clauses = is.clauses })).1 in
    omega (arith, same, bound, few)

-- what is asked first has as many cells as the first model, and what is asked later has fewer
abbrev pub HasRoomFrom : Problem → ℕ → Tables → Type 0
HasRoomFrom p k s = (k ≡ len (first_heap s)) ⊎ HasRoomBelow p s

pub room_first : (p : Problem) (k : ℕ) (s : Tables) → HasRoomFrom p k s → HasRoom p k → HasRoomBelow p s
room_first p k s from room =
    elim from as (λ _. HasRoomBelow p s) [ inl e ↦ λ some. subst (HasRoom p) e room | inr below ↦ below ]

pub room_none : (p : Problem) (k : ℕ) (s : Tables) → HasRoomFrom p k s → k ≤ 0 → HasRoomBelow p s
room_none p k s from none =
    elim from as (λ _. HasRoomBelow p s) [ inl e ↦ λ some. absurd (omega (arith, e, none, some)) | inr below ↦ below ]

pub lower : (p : Problem) (k : ℕ) (s : Section) → IsRefutationOf (bounded_by p k) s → IsLower p k s
lower p k s is = record { valid = is.valid; writable = record { first = is.first; few = is.few; spelled = is.spelled } }

-- a heap has as many cells as are listed
pub as_many : (cells : List Cell) (h : Heap) → pairs cells ≡ entries h → length cells ≡ len h
as_many cells h e = sym (length-map cells _) ∙ ap length e ∙ sym (len-entries h)

-- Look-ups, and what a walk does at one place.
use Rattle.std.specs.Prelude.{◌≡◌, ◌≢◌, ◌⊎◌, ℕ, ◌<◌, Option, Some, None, cond}
use Rattle.std.specs.Ordering.{nat_cmp}
use Rattle.std.specs.Cmp.{nat_cmp_total}
use Rattle.std.specs.FinMap.{get, empty, insert, get-empty, get-insert, same_map, nat_cmp-IsAntisymmetric}
use Rattle.std.proofs.Common.{refl, sym, ◌∙◌, ap, inl, inr}
use Rattle.gh_assert.specs.Heaps.{Heap, IsPart}
use Rattle.gh_assert.proofs.Unique.{tie, apart}
use Rattle.gh_assert.specs.Walks.{IsDistance, succ, content_or, walk, Allocated}
use Rattle.gh_assert.proofs.Steps.{steps_fixed, moves}

pub by_look_ups : (a b : Heap) → ((q : ℕ) → get a q ≡ get b q) → a ≡ b
by_look_ups a b = same_map nat_cmp_total nat_cmp-IsAntisymmetric a b

pub get_put : (h : Heap) (x v : ℕ) → get (insert h x v) x ≡ Some v
get_put h x v = get-insert nat_cmp_total h x v x ∙ ap (λ t. cond t (Some v) (get h x)) (tie x x refl)

pub get_beside : (h : Heap) (x v q : ℕ) → q ≢ x → get (insert h x v) q ≡ get h q
get_beside h x v q n = get-insert nat_cmp_total h x v q ∙ ap (λ t. cond t (Some v) (get h q)) (apart q x n)

abbrev pub no_cells : Heap
no_cells = empty

pub get_nothing : (q : ℕ) → get no_cells q ≡ None
get_nothing q = get-empty nat_cmp q

pub no_cells_part : (h : Heap) → IsPart no_cells h
no_cells_part h q v e = let none : get no_cells q ≡ None = get_nothing q in absurd cc

some_or_none : (o : Option ℕ) → ((v : ℕ) × (o ≡ Some v)) ⊎ (o ≡ None)
some_or_none None = inr refl
some_or_none (Some v) = inl (v, refl)

pub allocated_or : (h : Heap) (x : ℕ) → Allocated h x ⊎ (get h x ≡ None)
allocated_or h x = some_or_none (get h x)

pub succ_at : (h : Heap) (x v : ℕ) → get h x ≡ Some v → succ h x ≡ v
succ_at h x v e = ap (content_or x) e

pub at_succ : (h : Heap) (x : ℕ) → Allocated h x → get h x ≡ Some (succ h x)
at_succ h x (v, e) = e ∙ ap Some (sym (succ_at h x v e))

pub succ_stays : (h : Heap) (x : ℕ) → get h x ≡ None → succ h x ≡ x
succ_stays h x e = ap (content_or x) e

-- what isn't allocated reaches itself alone
pub walk_stays : (h : Heap) (x : ℕ) → get h x ≡ None → (n : ℕ) → walk h n x ≡ x
walk_stays h x e n = steps_fixed (succ h) n x (succ_stays h x e)

-- before the end of a walk each place is allocated
pub allocated_before : (h : Heap) {x y n : ℕ} → IsDistance (succ h) x y n → (i : ℕ) → i < n → Allocated h (walk h i x)
allocated_before h {x = x} d i l = elim (allocated_or h (walk h i x)) [
  | inl a ↦ a
  | inr e ↦ absurd (moves d i l (succ_stays h (walk h i x) e))
]

-- Look-ups in the built heap.
use Rattle.std.specs.Prelude.{◌≡◌, ◌≢◌, ℕ, List, [], ◌∷◌, Bool, true, false, cond, Some, Contains}
use Rattle.std.specs.FinMap.{get, insert}
use Rattle.std.proofs.lemmas.Bool.{cases_eq, cases_Bool}
use Rattle.std.proofs.Common.{refl, sym, ◌∙◌, ap, subst, inl, inr, arith}
use Rattle.gh_assert.proofs.Cells.{get_put, get_beside, get_nothing}
use Rattle.gh_assert.proofs.Owned.{later_one, first_or_later}
use Rattle.gh_model.specs.Structures.{HeapStructure}
use Rattle.gh_model.specs.BuiltHeaps.{first, cells_at}

-- what is found first passes and is in the list
pub first_passes : (p : ℕ → Bool) (vs : List ℕ) (v : ℕ) → Contains vs v → p v ≡ true
    → Contains vs (first p vs) × (p (first p vs) ≡ true)
first_passes p [] v c t = absurd (omega (arith, c.1))
first_passes p (u ∷ us) v c t = elim (cases_Bool (p u)) [
  | inl yes' ↦ rw yes' ((0, omega arith, refl), yes')
  | inr not' ↦ elim (first_or_later u v us c) [
    | inl same ↦ absurd cc
    | inr later ↦ let rest = first_passes p us v later t in rw not' (later_one u (first p us) us rest.0, rest.1)
  ]
]

pub record IsCellOf (V : List ℕ) (m : HeapStructure) (xs : List ℕ) (x v : ℕ) : Type 0 where
  pub named : Contains xs x
  pub alloc : m.alloc x ≡ true
  pub content : v ≡ first (m.hop x) V

with_cell : (V : List ℕ) (m : HeapStructure) (u : ℕ) (us : List ℕ) → m.alloc u ≡ true
    → cells_at V m (u ∷ us) ≡ insert (cells_at V m us) u (first (m.hop u) V)
with_cell V m u us on = ap (λ b. cond b (insert (cells_at V m us) u (first (m.hop u) V)) (cells_at V m us)) on

without_cell : (V : List ℕ) (m : HeapStructure) (u : ℕ) (us : List ℕ) → m.alloc u ≡ false
    → cells_at V m (u ∷ us) ≡ cells_at V m us
without_cell V m u us off = ap (λ b. cond b (insert (cells_at V m us) u (first (m.hop u) V)) (cells_at V m us)) off

at_cell : (V : List ℕ) (m : HeapStructure) (u : ℕ) (us : List ℕ) → m.alloc u ≡ true
    → get (cells_at V m (u ∷ us)) u ≡ Some (first (m.hop u) V)
at_cell V m u us on = ap (λ h. get h u) (with_cell V m u us on) ∙ get_put (cells_at V m us) u (first (m.hop u) V)

beside_cell : (V : List ℕ) (m : HeapStructure) (u : ℕ) (us : List ℕ) (x : ℕ) → x ≢ u
    → get (cells_at V m (u ∷ us)) x ≡ get (cells_at V m us) x
beside_cell V m u us x other = elim (cases_Bool (m.alloc u)) [
  | inl on ↦ ap (λ h. get h x) (with_cell V m u us on) ∙ get_beside (cells_at V m us) u (first (m.hop u) V) x other
  | inr off ↦ ap (λ h. get h x) (without_cell V m u us off)
]

later_cell : (V : List ℕ) (m : HeapStructure) (u : ℕ) (us : List ℕ) (x v : ℕ) → IsCellOf V m us x v
    → IsCellOf V m (u ∷ us) x v
later_cell V m u us x v c = record { named = later_one u x us c.named; alloc = c.alloc; content = c.content }

pub cell_from : (V : List ℕ) (m : HeapStructure) (xs : List ℕ) (x v : ℕ) → get (cells_at V m xs) x ≡ Some v
    → IsCellOf V m xs x v
cell_from V m [] x v e = let none = get_nothing x in absurd cc
cell_from V m (u ∷ us) x v e = elim (cases_eq x u) [
  | inr other ↦ later_cell V m u us x v (cell_from V m us x v (sym (beside_cell V m u us x other) ∙ e))
  | inl same ↦ elim (cases_Bool (m.alloc u)) [
    | inl on ↦
        let here = at_cell V m u us on in
        record { named = (0, omega arith, sym same); alloc = ap m.alloc same ∙ on; content = cc }
    | inr off ↦ later_cell V m u us x v (cell_from V m us x v (sym (ap (λ h. get h x) (without_cell V m u us off)) ∙ e))
  ]
]

pub cell_of : (V : List ℕ) (m : HeapStructure) (xs : List ℕ) (x : ℕ) → Contains xs x → m.alloc x ≡ true
    → get (cells_at V m xs) x ≡ Some (first (m.hop x) V)
cell_of V m [] x c t = absurd (omega (arith, c.1))
cell_of V m (u ∷ us) x c t = elim (cases_eq u x) [
  | inl same ↦ subst (λ w. get (cells_at V m (u ∷ us)) w ≡ Some (first (m.hop w) V)) same
      (at_cell V m u us (ap m.alloc same ∙ t))
  | inr other ↦ elim (first_or_later u x us c) [
    | inl same ↦ absurd (other same)
    | inr later ↦ beside_cell V m u us x (λ e. other (sym e)) ∙ cell_of V m us x later t
  ]
]

-- Betweenness and the first values of a walk.
use Rattle.std.specs.Prelude.{◌≢◌, ℕ, ◌≤◌, ◌<◌}
use Rattle.std.proofs.lemmas.Bool.{cases_eq}
use Rattle.std.proofs.Common.{sym, ◌∙◌, ap, inl, inr, arith}
use Rattle.gh_assert.specs.Heaps.{Heap}
use Rattle.gh_assert.specs.Walks.{steps, IsDistance, succ, Between, Meets}
use Rattle.gh_assert.proofs.Steps.{distance_unique}

-- the places of a walk before its end are those between
pub between_met : (h : Heap) (x y z n : ℕ) → IsDistance (succ h) x y n → Meets (succ h) x n z
    → Between h x z y × (z ≢ y)
between_met h x y z n d (i, l, e) =
    (record { end = n; distance = d; at = i; within = omega arith; passes = e }, λ same. d.before i l (e ∙ same))

pub met_between : (h : Heap) (x y z : ℕ) → (b : Between h x z y) → z ≢ y → b.at < b.end
met_between h x y z b n = elim (cases_eq b.at b.end) [
  | inl same ↦ absurd (n (sym b.passes ∙ ap (λ i. steps (succ h) i x) same ∙ b.distance.arrives))
  | inr other ↦ let w : b.at ≤ b.end = b.within in omega arith
]

pub meets_between : (h : Heap) (x y z n : ℕ) → IsDistance (succ h) x y n → Between h x z y → z ≢ y
    → Meets (succ h) x n z
meets_between h x y z n d b other =
    (b.at, omega (arith, met_between h x y z b other, distance_unique b.distance d), b.passes)

-- The new clauses are in range.
use Rattle.std.proofs.Common.{ℕ, suc, ◌+◌, ◌-◌, ◌<◌, ◌≤◌, ◌∷◌, [], arith}
use Rattle.std.proofs.lemmas.List.Elements.{All-nil, All-cons}
use Rattle.gh_base.specs.declared.atom.Atom.TheVariants.{Eq}
use Rattle.gh_base.specs.declared.atom.Lit.{Lit}
use Rattle.gh_base.specs.declared.sizes.Sizes.{Sizes}
use Rattle.gh_base.specs.Atoms.{IsInRange, AreInRange, term, positive, negative}
use Rattle.gh_small.specs.declared.bounding.Numbers.{Numbers}
use Rattle.gh_small.specs.Fewer.{earlier, is_allocated, leader, counter, leader_clause, begins, raises, keeps}
use Rattle.gh_small.specs.Fewer.{last_clause}
use Rattle.gh_small.specs.Bounded.{AreSizes}
use Rattle.gh_small.proofs.EachLemmas.{pair_all, each_all}
use Rattle.gh_small.proofs.NumberLemmas.{counter_below, leader_below}

module _ (c : Numbers) (s : Sizes) (w : AreSizes c s) where
  abbrev Range : Lit → Type 0
  Range l = IsInRange s l.atom

  counter_range : (t j : ℕ) → t < c.terms → j < c.cells → IsInRange s (counter c.terms c.first c.cells t j)
  counter_range t j lt le = omega (arith, counter_below c.first c.terms c.cells t j lt le)

  leader_range : (t : ℕ) → t < c.terms → IsInRange s (leader c.first t)
  leader_range t lt = omega (arith, leader_below c.first c.terms c.cells t lt)

  pub begins_range : (t : ℕ) → t < c.terms → 1 ≤ c.cells → AreInRange s (begins c.terms c.first c.cells t)
  begins_range t lt some =
      pair_all Range (positive (counter c.terms c.first c.cells t 0)) (negative (leader c.first t))
      (counter_range t 0 lt (omega arith)) (leader_range t lt)

  pub raises_range : (t j : ℕ) → t + 1 < c.terms → j + 1 < c.cells → AreInRange s (raises c.terms c.first c.cells t j)
  raises_range t j lt le =
      All-cons Range (positive (counter c.terms c.first c.cells (suc t) (suc j)))
      (negative (leader c.first (suc t)) ∷ negative (counter c.terms c.first c.cells t j) ∷ [])
      (counter_range (suc t) (suc j) (omega arith) (omega arith))
      (pair_all Range (negative (leader c.first (suc t))) (negative (counter c.terms c.first c.cells t j))
      (leader_range (suc t) (omega arith)) (counter_range t j (omega arith) (omega arith)))

  pub keeps_range : (t j : ℕ) → t + 1 < c.terms → j < c.cells → AreInRange s (keeps c.terms c.first c.cells t j)
  keeps_range t j lt le =
      pair_all Range (positive (counter c.terms c.first c.cells (suc t) j))
      (negative (counter c.terms c.first c.cells t j)) (counter_range (suc t) j (omega arith) le)
      (counter_range t j (omega arith) le)

  pub leader_clause_range : (t : ℕ) → t < c.terms → AreInRange s (leader_clause c.first t)
  leader_clause_range t lt =
      All-cons Range (positive (leader c.first t)) (negative (is_allocated t) ∷ earlier t) (leader_range t lt)
      (All-cons Range (negative (is_allocated t)) (earlier t) (omega (arith, w.versions), omega (arith, w.terms))
      (each_all Range t (λ u. positive (Eq (term u) (term t)) ∷ [])
      (λ u under. All-cons Range (positive (Eq (term u) (term t))) [] (omega arith, omega (arith, w.terms))
      (All-nil Range))))

  pub last_range : 1 ≤ c.terms → 1 ≤ c.cells → AreInRange s (last_clause c.terms c.first c.cells)
  last_range one some =
      All-cons Range (negative (counter c.terms c.first c.cells (c.terms - 1) (c.cells - 1))) []
      (counter_range (c.terms - 1) (c.cells - 1) (omega arith) (omega arith)) (All-nil Range)

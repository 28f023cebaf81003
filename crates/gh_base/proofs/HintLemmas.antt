-- Hints, as unit propagation.
use Rattle.std.proofs.Common.{◌≡◌, ◌⊎◌, inl, inr, zero, suc, ℕ, ◌<◌, length, get_or, List, ◌∷◌, All, subst, arith}
use Rattle.std.specs.Prelude.{Contains, map}
use Rattle.std.proofs.lemmas.List.Elements.{All-head, All-tail}
use Rattle.gh_base.specs.declared.atom.Lit.{Lit}
use Rattle.gh_base.specs.Atoms.{opposite}
use Rattle.gh_base.specs.Propagation.{Propagated, given, forced, IsRefutedByUnits}
use Rattle.gh_base.specs.Hints.{IsRefutedByHints, refuted, joined, HintsShowByUnits, HintsShowTruth}
use Rattle.gh_base.proofs.UnitLemmas.{sound}

-- an element is the first one, or one of the others
first_or_other : (x y : Lit) (xs : List Lit) → Contains (x ∷ xs) y → (x ≡ y) ⊎ Contains xs y
first_or_other x y xs at = by at.0 at.1 at.2
  where
    by : (k : ℕ) → k < length (x ∷ xs) → get_or (x ∷ xs) k y ≡ y → (x ≡ y) ⊎ Contains xs y
    by zero less is = inl is
    by (suc k) less is = inr (k, omega (arith, less), is)

-- what comes to a contradiction by hints does so by propagation
refuted_by_units : (clauses hints : List (List Lit)) (assumed set : List Lit) → All (Contains clauses) hints
    → IsRefutedByHints hints set
    → ((l : Lit) → Contains set l → Propagated clauses assumed l) → IsRefutedByUnits clauses assumed
refuted_by_units clauses _ assumed _ among (refuted c hints set all) has =
    inr (c, All-head (Contains clauses) c hints among, λ k d less. has (opposite (get_or c k d)) (all k d less))
refuted_by_units clauses _ assumed _ among (joined c hints set l one more) has =
    let forced_one : Propagated clauses assumed l =
    forced c l (All-head (Contains clauses) c hints among) one.there
    (λ m in_c ne. has (opposite m) (one.others m in_c ne)) in
    refuted_by_units clauses hints assumed (l ∷ set) (All-tail (Contains clauses) c hints among) more (λ m there.
    elim (first_or_other l m set there) as (λ _. Propagated clauses assumed m) [
      | inl same ↦ subst (Propagated clauses assumed) same forced_one
      | inr before ↦ has m before
    ])

pub follow_by_units : HintsShowByUnits
follow_by_units clauses hints clause among (inl w) = inl (w.0, given w.0 w.1, given (opposite w.0) w.2)
follow_by_units clauses hints clause among (inr by_hints) =
    refuted_by_units clauses hints (map opposite clause) (map opposite clause) among by_hints (λ l there. given l there)

pub are_true : HintsShowTruth
are_true clauses hints clause m among all shown =
    sound clauses clause m all (follow_by_units clauses hints clause among shown)

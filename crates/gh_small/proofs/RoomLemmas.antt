-- Room for a bound, by numbers.
use Rattle.std.proofs.Common.{◌≡◌, ◌↔◌, sym, subst, inl, inr, ℕ, zero, suc, ◌+◌, ◌-◌, ◌*◌, ◌<◌, ◌≤◌, ◌++◌, Bool, length}
use Rattle.std.proofs.Common.{arith, length-append}
use Rattle.std.proofs.lemmas.Bool.{cases_Bool}
use Rattle.gh_base.specs.declared.sizes.Sizes.{Sizes}
use Rattle.gh_base.specs.Meaning.{Interpretation}
use Rattle.gh_base.specs.Grounds.{Problem}
use Rattle.gh_small.specs.Fewer.{fewer}
use Rattle.gh_small.specs.Leaders.{counted, leads, allocated_classes}
use Rattle.gh_small.specs.Bounded.{HasRoom}
use Rattle.gh_small.proofs.CounterLemmas.{one_more, none_more}
use Rattle.gh_small.proofs.CountedLemmas.{many}

pub counted_below : (p : ℕ → Bool) (n : ℕ) → counted p n ≤ n
counted_below p zero = omega arith
counted_below p (suc n) = elim (cases_Bool (p n)) as (λ _. counted p (suc n) ≤ suc n) [
  | inl on ↦ omega (arith, counted_below p n, one_more p n on)
  | inr off ↦ omega (arith, counted_below p n, none_more p n off)
]

pub classes_below : (m : Interpretation) (n : ℕ) → allocated_classes m n ≤ n
classes_below m n = counted_below (leads m) n

-- by numbers
room_of : (p : Problem) (k count : ℕ) → count ≡ length p.clauses → 1 ≤ p.sizes.terms → 1 ≤ k
    → HasRoom p k ↔ ((count + (p.sizes.terms + (p.sizes.terms - 1) * (2 * k) + 2) ≤ 4294967294)
    × (p.sizes.defs + p.sizes.terms + p.sizes.terms * k < 4294967296))
room_of p k count is one some =
    let all = length-append p.clauses (fewer p.sizes.terms p.sizes.defs k) in
    let new = many p.sizes.terms p.sizes.defs k one some in (
      (λ h. (
        let most : length (p.clauses ++ fewer p.sizes.terms p.sizes.defs k) ≤ 4294967294 = h.clauses in
            omega arith,
        h.defs,
      )),
      λ h. record { clauses = (let few = h.0 in omega arith); defs = h.1 },
    )

pub room_says : (p : Problem) (s : Sizes) (k count : ℕ) → s ≡ p.sizes → count ≡ length p.clauses → 1 ≤ p.sizes.terms
    → 1 ≤ k
    → HasRoom p k ↔ ((count + (s.terms + (s.terms - 1) * (2 * k) + 2) ≤ 4294967294)
    × (s.defs + s.terms + s.terms * k < 4294967296))
room_says p s k count e is one some =
    subst (λ (z : Sizes). HasRoom p k
    ↔ ((count + (z.terms + (z.terms - 1) * (2 * k) + 2) ≤ 4294967294)
    × (z.defs + z.terms + z.terms * k < 4294967296))) (sym e) (room_of p k count is one some)

-- The clauses say that fewer than k classes are allocated.
use Rattle.std.proofs.Common.{◌≡◌, inl, inr, ℕ, zero, suc, ◌-◌, ◌<◌, ◌≤◌, Bool, true, [], ◌∷◌, ap, arith}
use Rattle.std.proofs.lemmas.Bool.{cases_lt, eqb-true}
use Rattle.std.proofs.lemmas.List.Elements.{All-head}
use Rattle.gh_base.specs.declared.atom.Atom.TheVariants.{Eq}
use Rattle.gh_base.specs.Meaning.{Interpretation, IsLitTrue, IsClauseTrue}
use Rattle.gh_base.specs.Atoms.{term, positive, negative}
use Rattle.gh_small.specs.Fewer.{earlier, is_allocated, leader, counter, begins, raises, keeps}
use Rattle.gh_small.specs.Leaders.{counted, leads, allocated_classes}
use Rattle.gh_small.specs.Laws.{FewerIsSound}
use Rattle.gh_small.proofs.EachLemmas.{any_each, any_cases, any_none, pair_first, pair_second}
use Rattle.gh_small.proofs.ImplyLemmas.{next_lit, two_give, three_give}
use Rattle.gh_small.proofs.CounterLemmas.{IsStepped, told, counted_within}
use Rattle.gh_small.proofs.LeaderLemmas.{meets, leads_allocated, leads_first}
use Rattle.gh_small.proofs.PartLemmas.{AreParts, parts_of}

module _ (m : Interpretation) (n d k : ℕ) (h : AreParts m n d k) where
  abbrev L : ℕ → Bool
  L t = m.table (leader d t)

  abbrev S : ℕ → ℕ → Bool
  S t j = m.table (counter n d k t j)

  -- a leader is told
  led : (t : ℕ) → t < n → leads m t ≡ true → L t ≡ true
  led t lt is = elim (any_cases (IsLitTrue m) (positive (leader d t)) (negative (is_allocated t) ∷ earlier t)
      (h.leaders t lt)) as (λ _. L t ≡ true) [
        | inl here ↦ here
        | inr rest ↦
            let w =
            any_each (IsLitTrue m) t (λ u. positive (Eq (term u) (term t)) ∷ [])
            (next_lit m (is_allocated t) (earlier t) (leads_allocated m t is) rest) in
            elim (any_cases (IsLitTrue m) (positive (Eq (term w.0) (term t))) [] w.2) as (λ _. L t ≡ true) [
              | inl e ↦
                  let same : m.class w.0 ≡ m.class t = eqb-true (m.class w.0) (m.class t) e in
                  absurd (cc (meets m t t w.0 w.1 same, leads_first m t is))
              | inr off ↦ any_none (IsLitTrue m) off
            ]
      ]

  first : (t : ℕ) → t < n → 0 < k → L t ≡ true → S t 0 ≡ true
  first zero lt le =
      two_give m (counter n d k 0 0) (leader d 0) (All-head (IsClauseTrue m) (begins n d k 0) [] (h.counters 0 0 lt le))
  first (suc t) lt le =
      two_give m (counter n d k (suc t) 0) (leader d (suc t))
      (pair_first (IsClauseTrue m) (begins n d k (suc t)) (keeps n d k t 0) (h.counters (suc t) 0 lt le))

  again : (t j : ℕ) → suc t < n → j < k → S t j ≡ true → S (suc t) j ≡ true
  again t zero lt le =
      two_give m (counter n d k (suc t) 0) (counter n d k t 0)
      (pair_second (IsClauseTrue m) (begins n d k (suc t)) (keeps n d k t 0) (h.counters (suc t) 0 lt le))
  again t (suc j) lt le =
      two_give m (counter n d k (suc t) (suc j)) (counter n d k t (suc j))
      (pair_second (IsClauseTrue m) (raises n d k t j) (keeps n d k t (suc j)) (h.counters (suc t) (suc j) lt le))

  stepped : IsStepped n k L S
  stepped = record {
    begun = first;
    raised = λ t j lt le.
        three_give m (counter n d k (suc t) (suc j)) (leader d (suc t)) (counter n d k t j)
        (pair_first (IsClauseTrue m) (raises n d k t j) (keeps n d k t (suc j)) (h.counters (suc t) (suc j) lt le));
    kept = again;
  }

  few : 1 ≤ n → 1 ≤ k → allocated_classes m n < k
  few some one = elim (cases_lt (counted L n) k) as (λ _. allocated_classes m n < k) [
    | inl lt ↦ omega (arith, counted_within (leads m) L n led)
    | inr ge ↦
        let all : counted L (suc (n - 1)) ≡ counted L n = ap (counted L) (let e : suc (n - 1) ≡ n = omega arith in e) in
        let top : S (n - 1) (k - 1) ≡ true =
        told n k L S stepped (n - 1) (k - 1) (omega arith) (omega arith) (omega arith) in
        any_none (IsLitTrue m) (next_lit m (counter n d k (n - 1) (k - 1)) [] top h.last)
  ]

pub sound : FewerIsSound
sound m n d k some one h = few m n d k (parts_of m n d k h) some one

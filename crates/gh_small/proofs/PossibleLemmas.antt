-- Where fewer than k classes are allocated the clauses can be made true.
use Rattle.std.proofs.Common.{◌≡◌, ◌↔◌, inl, inr, ℕ, zero, suc, ◌+◌, ◌-◌, ◌*◌, ◌/◌, ◌%◌, ◌<◌, ◌≤◌, Bool, true, cond}
use Rattle.std.proofs.Common.{ltb, [], ◌∷◌, All, refl, sym, ap, ◌∙◌, arith}
use Rattle.std.proofs.lemmas.Bool.{cases_Bool, lt-ltb, le-ltb, ltb-true, cond-true, cond-false}
use Rattle.std.proofs.lemmas.Nat.{div-mul-add, mod-mul-add}
use Rattle.std.proofs.lemmas.List.Elements.{All-nil, All-cons}
use Rattle.gh_base.specs.declared.atom.Atom.{Atom}
use Rattle.gh_base.specs.declared.atom.Atom.TheVariants.{Eq, Btwn, Hop, Alloc, Def}
use Rattle.gh_base.specs.Meaning.{Interpretation, IsLitTrue, IsClauseTrue}
use Rattle.gh_base.specs.Atoms.{term, positive, negative}
use Rattle.gh_small.specs.Fewer.{earlier, is_allocated, leader, counter, leader_clause, begins, raises, keeps}
use Rattle.gh_small.specs.Fewer.{counter_clauses, last_clause}
use Rattle.gh_small.specs.Leaders.{counted, is_met, leads, allocated_classes}
use Rattle.gh_grass.specs.Truth.{IsEarlier}
use Rattle.gh_small.specs.Laws.{FewerIsPossible}
use Rattle.gh_small.proofs.EachLemmas.{each_any, any_here, pair_all}
use Rattle.gh_small.proofs.ImplyLemmas.{premise, unless, two, three}
use Rattle.gh_small.proofs.CounterLemmas.{IsStepped, stepped}
use Rattle.gh_small.proofs.LeaderLemmas.{met, leads_both}
use Rattle.gh_small.proofs.PartLemmas.{whole_of}

module _ (m : Interpretation) (n d k : ℕ) where
  -- the count that a counter tells
  abbrev tells : ℕ → ℕ → Bool
  tells t j = ltb j (counted (leads m) (suc t))

  -- the truth of the definition number e of the new ones
  abbrev new_truth : ℕ → Bool
  new_truth e = cond (ltb e n) (leads m e) (tells ((e - n) / k) ((e - n) % k))

  abbrev truths : Atom → Bool
  truths (Eq a b) = m.table (Eq a b)
  truths (Btwn v x y z) = m.table (Btwn v x y z)
  truths (Hop v x y) = m.table (Hop v x y)
  truths (Alloc v x) = m.table (Alloc v x)
  truths (Def number) = cond (ltb number d) (m.table (Def number)) (new_truth (number - d))

  abbrev extended : Interpretation
  extended = record { class = m.class; table = truths }

  old : (a : Atom) → IsEarlier d a → truths a ≡ m.table a
  old (Eq a b) h = refl
  old (Btwn v x y z) h = refl
  old (Hop v x y) h = refl
  old (Alloc v x) h = refl
  old (Def number) h = cond-true _ _ _ (lt-ltb number d h)

  new_at : (e : ℕ) → truths (Def (d + e)) ≡ new_truth e
  new_at e =
      cond-false (ltb (d + e) d) (m.table (Def (d + e))) (new_truth ((d + e) - d)) (le-ltb (d + e) d (omega arith))
      ∙ ap new_truth (let same : (d + e) - d ≡ e = omega arith in same)

  leader_is : (t : ℕ) → t < n → truths (leader d t) ≡ leads m t
  leader_is t lt = new_at t ∙ cond-true (ltb t n) (leads m t) _ (lt-ltb t n lt)

  counter_is : (t j : ℕ) → j < k → truths (counter n d k t j) ≡ tells t j
  counter_is t j le =
      let at : d + n + t * k + j ≡ d + (n + (t * k + j)) = omega arith in
      let off : (n + (t * k + j)) - n ≡ t * k + j = omega arith in
      ap (λ (x : ℕ). truths (Def x)) at
      ∙ new_at (n + (t * k + j))
      ∙ cond-false (ltb (n + (t * k + j)) n) _ _ (le-ltb (n + (t * k + j)) n (omega arith))
      ∙ ap (λ (x : ℕ). tells (x / k) (x % k)) off
      ∙ ap (λ (x : ℕ). tells x ((t * k + j) % k)) (div-mul-add t k j le)
      ∙ ap (tells t) (mod-mul-add t k j le)

  abbrev S : ℕ → ℕ → Bool
  S t j = truths (counter n d k t j)

  -- a counter is true where it tells the count
  exact : (t j : ℕ) → j < k → (S t j ≡ true) ↔ (j < counted (leads m) (suc t))
  exact t j le = (λ h. ltb-true j _ (sym (counter_is t j le) ∙ h), λ h. counter_is t j le ∙ lt-ltb j _ h)

  leaders_true : (t : ℕ) → t < n → IsClauseTrue extended (leader_clause d t)
  leaders_true t lt =
      unless extended (leader d t) (negative (is_allocated t) ∷ earlier t) (λ un.
      premise extended (is_allocated t) (earlier t)
      (λ there. elim (cases_Bool (is_met m t t)) as (λ _. IsClauseTrue extended (earlier t)) [
        | inl e ↦
            let w = met m t t e in
            each_any (IsLitTrue extended) t (λ u. positive (Eq (term u) (term t)) ∷ []) w.0 w.1
            (any_here (IsLitTrue extended) (positive (Eq (term w.0) (term t))) [] w.2)
        | inr ne ↦ absurd (un (leader_is t lt ∙ leads_both m t there ne))
      ]))

  steps : IsStepped n k (leads m) S
  steps = stepped n k (leads m) S exact

  begins_true : (t : ℕ) → t < n → 0 < k → IsClauseTrue extended (begins n d k t)
  begins_true t lt le =
      two extended (counter n d k t 0) (leader d t) (λ h. steps.begun t lt le (sym (leader_is t lt) ∙ h))

  raises_true : (t j : ℕ) → suc t < n → suc j < k → IsClauseTrue extended (raises n d k t j)
  raises_true t j lt le =
      three extended (counter n d k (suc t) (suc j)) (leader d (suc t)) (counter n d k t j)
      (λ h. steps.raised t j lt le (sym (leader_is (suc t) lt) ∙ h))

  keeps_true : (t j : ℕ) → suc t < n → j < k → IsClauseTrue extended (keeps n d k t j)
  keeps_true t j lt le = two extended (counter n d k (suc t) j) (counter n d k t j) (steps.kept t j lt le)

  counters_true : (t j : ℕ) → t < n → j < k → All (IsClauseTrue extended) (counter_clauses n d k t j)
  counters_true zero zero lt le =
      All-cons (IsClauseTrue extended) (begins n d k 0) [] (begins_true 0 lt le) (All-nil (IsClauseTrue extended))
  counters_true zero (suc j) lt le = All-nil (IsClauseTrue extended)
  counters_true (suc t) zero lt le =
      pair_all (IsClauseTrue extended) (begins n d k (suc t)) (keeps n d k t 0) (begins_true (suc t) lt le)
      (keeps_true t 0 lt le)
  counters_true (suc t) (suc j) lt le =
      pair_all (IsClauseTrue extended) (raises n d k t j) (keeps n d k t (suc j)) (raises_true t j lt le)
      (keeps_true t (suc j) lt le)

  last_true : 1 ≤ n → 1 ≤ k → allocated_classes m n < k → IsClauseTrue extended (last_clause n d k)
  last_true some one few = premise extended (counter n d k (n - 1) (k - 1)) [] (λ h.
      let all : counted (leads m) (suc (n - 1)) ≡ counted (leads m) n =
      ap (counted (leads m)) (let e : suc (n - 1) ≡ n = omega arith in e) in
      let most = (exact (n - 1) (k - 1) (omega arith)).0 h in
      absurd (omega arith))

pub possible : FewerIsPossible
possible m n d k some one few = (
  extended m n d k,
  record { class = refl; table = old m n d k },
  whole_of (extended m n d k) n d k
      (record {
        leaders = leaders_true m n d k;
        counters = counters_true m n d k;
        last = last_true m n d k some one few;
      }),
)

-- Leaders: who is met, and that each allocated class has one.
use Rattle.std.proofs.Common.{◌≡◌, inl, inr, ℕ, zero, suc, ◌+◌, ◌<◌, ◌≤◌, true, false, not, refl, sym, ap, ◌∙◌, arith}
use Rattle.std.proofs.lemmas.Bool.{cases_Bool, cases_eq, eq-eqb, eqb-true, cond-true, cond-false}
use Rattle.std.specs.Prelude.{nat_eq}
use Rattle.gh_base.specs.declared.sizes.Sizes.{Sizes}
use Rattle.gh_base.specs.Meaning.{Interpretation, IsCongruence}
use Rattle.gh_base.specs.Atoms.{term}
use Rattle.gh_small.specs.Fewer.{is_allocated}
use Rattle.gh_small.specs.Leaders.{is_met, leads}

-- a term below u that equals t
pub met : (m : Interpretation) (t u : ℕ) → is_met m t u ≡ true
    → (v : ℕ) × (v < u) × (nat_eq (m.class v) (m.class t) ≡ true)
met m t zero h = absurd (cc)
met m t (suc u) h =
    elim (cases_Bool (nat_eq (m.class u) (m.class t))) as
    (λ _. (v : ℕ) × (v < suc u) × (nat_eq (m.class v) (m.class t) ≡ true)) [
      | inl e ↦ (u, omega arith, e)
      | inr ne ↦ let w = met m t u (sym (cond-false _ true (is_met m t u) ne) ∙ h) in (w.0, omega (arith, w.1), w.2)
    ]

pub meets : (m : Interpretation) (t u v : ℕ) → v < u → m.class v ≡ m.class t → is_met m t u ≡ true
meets m t zero v lt e = absurd (omega arith)
meets m t (suc u) v lt e = elim (cases_Bool (nat_eq (m.class u) (m.class t))) as (λ _. is_met m t (suc u) ≡ true) [
  | inl same ↦ cond-true _ true (is_met m t u) same
  | inr ne ↦ elim (cases_eq v u) as (λ _. is_met m t (suc u) ≡ true) [
    | inl here ↦ absurd (cc (ne, eq-eqb (m.class u) (m.class t) (sym (ap (λ (x : ℕ). m.class x) here) ∙ e)))
    | inr off ↦ cond-false _ true (is_met m t u) ne ∙ meets m t u v (omega arith) e
  ]
]

-- a leader is allocated and not met, and the other way
pub leads_allocated : (m : Interpretation) (t : ℕ) → leads m t ≡ true → m.table (is_allocated t) ≡ true
leads_allocated m t h = elim (cases_Bool (m.table (is_allocated t))) as (λ _. m.table (is_allocated t) ≡ true) [
  | inl e ↦ e
  | inr ne ↦ absurd (cc (sym (cond-false _ (not (is_met m t t)) false ne) ∙ h))
]

pub leads_first : (m : Interpretation) (t : ℕ) → leads m t ≡ true → is_met m t t ≡ false
leads_first m t h = elim (cases_Bool (is_met m t t)) as (λ _. is_met m t t ≡ false) [
  | inl e ↦ absurd (cc (sym h ∙ cond-true _ (not (is_met m t t)) false (leads_allocated m t h) ∙ ap not e))
  | inr ne ↦ ne
]

pub leads_both : (m : Interpretation) (t : ℕ) → m.table (is_allocated t) ≡ true → is_met m t t ≡ false
    → leads m t ≡ true
leads_both m t h f = cond-true _ (not (is_met m t t)) false h ∙ ap not f

-- the least term of an allocated class leads
pub led_by : (s : Sizes) (m : Interpretation) → 1 ≤ s.versions → IsCongruence s m → (t : ℕ) → t < s.terms
    → m.table (is_allocated t) ≡ true → (u : ℕ) × (u ≤ t) × (leads m u ≡ true) × (m.class u ≡ m.class t)
led_by s m some c t lt there = go (t + 1) t (omega arith) lt there
  where
    go : (fuel v : ℕ) → v < fuel → v < s.terms → m.table (is_allocated v) ≡ true
        → (u : ℕ) × (u ≤ v) × (leads m u ≡ true) × (m.class u ≡ m.class v)
    go zero v low lt there = absurd (omega arith)
    go (suc fuel) v low lt there =
        elim (cases_Bool (is_met m v v)) as (λ _. (u : ℕ) × (u ≤ v) × (leads m u ≡ true) × (m.class u ≡ m.class v)) [
          | inl e ↦
              let w = met m v v e in
              let under : w.0 < v = w.1 in
              let same : m.class w.0 ≡ m.class v = eqb-true (m.class w.0) (m.class v) w.2 in
              let has : m.table (is_allocated w.0) ≡ true =
              c.alloc 0 (term w.0) (term v) (omega arith, omega arith) (omega arith, lt) same ∙ there in
              let r = go fuel w.0 (omega arith) (omega arith) has in
              (r.0, omega (arith, r.1), r.2, r.3 ∙ same)
          | inr ne ↦ (v, omega arith, leads_both m v there ne, refl)
        ]

-- The leaders of a structure: the terms that are their own classes.
use Rattle.std.proofs.Common.{◌≡◌, ◌≢◌, inl, inr, ℕ, ◌<◌, ◌≤◌, Bool, true, false, sym, ◌∙◌, arith}
use Rattle.std.proofs.lemmas.Bool.{cases_Bool, eqb-true}
use Rattle.gh_base.specs.Structures.{Tables, AreTables, class_at, interpretation_of}
use Rattle.gh_small.specs.Fewer.{is_allocated}
use Rattle.gh_small.specs.Leaders.{is_met, leads}
use Rattle.gh_small.proofs.LeaderLemmas.{met, meets, leads_both, leads_allocated, leads_first}

not_both : {X : Type 0} (b : Bool) → b ≡ true → b ≡ false → X
not_both true e f = absurd (cc)
not_both false e f = absurd (cc)

module _ (s : Tables) (w : AreTables s) (t : ℕ) (lt : t < s.sizes.terms) where
  -- its own class is met by none before
  unmet : class_at s.classes t ≡ t → is_met (interpretation_of s) t t ≡ false
  unmet own = elim (cases_Bool (is_met (interpretation_of s) t t)) as (λ _. is_met (interpretation_of s) t t ≡ false) [
    | inl e ↦
        let v = met (interpretation_of s) t t e in
        let below : v.0 < t = v.1 in
        let same : class_at s.classes v.0 ≡ class_at s.classes t =
        eqb-true (class_at s.classes v.0) (class_at s.classes t) v.2 in
        let low : class_at s.classes v.0 ≤ v.0 = w.classes.least v.0 (omega (arith, w.terms)) in
        absurd (omega arith)
    | inr ne ↦ ne
  ]

  pub leads_own : class_at s.classes t ≡ t
      → leads (interpretation_of s) t ≡ (interpretation_of s).table (is_allocated t)
  leads_own own =
      elim (cases_Bool ((interpretation_of s).table (is_allocated t))) as
      (λ _. leads (interpretation_of s) t ≡ (interpretation_of s).table (is_allocated t)) [
        | inl there ↦ leads_both (interpretation_of s) t there (unmet own) ∙ sym there
        | inr none ↦ elim (cases_Bool (leads (interpretation_of s) t)) as
            (λ _. leads (interpretation_of s) t ≡ (interpretation_of s).table (is_allocated t)) [
              | inl on ↦ not_both ((interpretation_of s).table (is_allocated t)) (leads_allocated (interpretation_of s) t on)
                  none
              | inr off ↦ off ∙ sym none
            ]
      ]

  pub leads_not : class_at s.classes t ≢ t → leads (interpretation_of s) t ≡ false
  leads_not other = elim (cases_Bool (leads (interpretation_of s) t)) as (λ _. leads (interpretation_of s) t ≡ false) [
    | inl on ↦
        let low : class_at s.classes t ≤ t = w.classes.least t (omega (arith, w.terms)) in
        let apart : class_at s.classes t ≢ t = other in
        let found =
        meets (interpretation_of s) t t (class_at s.classes t) (omega arith)
        (w.classes.own t (omega (arith, w.terms))) in
        not_both (is_met (interpretation_of s) t t) found (leads_first (interpretation_of s) t on)
    | inr off ↦ off
  ]

-- The status of a clause.
use Rattle.std.proofs.Common.{◌≡◌, ◌⊎◌, ℕ, zero, suc, ◌<◌, List, [], ◌∷◌, length, get_or, take, Some, Bool, true, false}
use Rattle.std.proofs.Common.{inl, inr, refl, sym, ap, ◌∙◌, subst, arith, Contains}
use Rattle.std.specs.Prelude.{slice_get, not}
use Rattle.std.proofs.lemmas.List.Elements.{All-contains}
use Rattle.gh_base.specs.declared.atom.Lit.{Lit}
use Rattle.gh_base.specs.declared.atom.Atom.TheVariants.{Eq}
use Rattle.gh_base.specs.Atoms.{opposite}
use Rattle.gh_sat.specs.declared.trail.Step.{Step}
use Rattle.gh_sat.specs.Trail.{Line, IsTrueIn, IsFree, AreSteps}
use Rattle.gh_sat.specs.Status.{IsFalseOrUnit}

-- what the code reads past the end of a clause
abbrev pub nothing : Lit
nothing = record { atom = Eq (record { 0 = 0 }) (record { 0 = 0 }); positive = false }

differ_bool : (b : Bool) → b ≡ not b → ⊥
differ_bool true e = cc
differ_bool false e = cc

-- no literal stands with its opposite
pub not_both : (t : Line) (l : Lit) → AreSteps t → IsTrueIn t.steps l → IsTrueIn t.steps (opposite l) → ⊥
not_both t l h a b =
    let same : a.0 ≡ b.0 =
    h.apart a.0 a.1 b.0 b.1 a.3 b.3 (ap (λ (m : Lit). m.atom) a.4 ∙ sym (ap (λ (m : Lit). m.atom) b.4)) in
    let at : slice_get t.steps b.0 ≡ Some a.1 = subst (λ i. slice_get t.steps i ≡ Some a.1) same a.3 in
    let one : a.1 ≡ b.1 = let z = b.3 in cc in
    differ_bool l.positive (ap (λ (m : Lit). m.positive) (sym a.4) ∙ ap (λ (x : Step). x.lit.positive) one
    ∙ ap (λ (m : Lit). m.positive) b.4)

-- an atom that stands isn't free
pub not_free : (trail : List Step) (l : Lit) → IsTrueIn trail l → IsFree trail l.atom → ⊥
not_free trail l s f = f s.0 s.1 s.3 (ap (λ (m : Lit). m.atom) s.4)

pub not_free_opposite : (trail : List Step) (l : Lit) → IsTrueIn trail (opposite l) → IsFree trail l.atom → ⊥
not_free_opposite trail l s f = f s.0 s.1 s.3 (ap (λ (m : Lit). m.atom) s.4)

-- a clause with a true literal is neither
pub true_good : (t : Line) (c : List Lit) (l : Lit) → AreSteps t → Contains c l → IsTrueIn t.steps l
    → IsFalseOrUnit t.steps c
    → ⊥
true_good t c l h there s (inl f) = not_both t l h s (All-contains (λ m. IsTrueIn t.steps (opposite m)) c l f there)
true_good t c l h there s (inr (u, i)) =
    elim (All-contains (λ m. (m ≡ u) ⊎ IsTrueIn t.steps (opposite m)) c l i.others there) [
      | inl e ↦ not_free t.steps u (subst (IsTrueIn t.steps) e s) i.free
      | inr o ↦ not_both t l h s o
    ]

-- a literal of the front stands in the whole
pub in_front : (n : ℕ) (c : List Lit) (u : Lit) → Contains (take n c) u → Contains c u
in_front zero c u h = absurd (let k = h.1 in omega arith)
in_front (suc n) [] u h = h
in_front (suc n) (x ∷ c) u (zero, k, e) = (zero, omega arith, e)
in_front (suc n) (x ∷ c) u (suc i, k, e) =
    let r = in_front n c u (i, omega arith, e) in (suc r.0, omega (arith, r.1), r.2)

pub in_at : (c : List Lit) (i : ℕ) (l : Lit) → i < length c → Contains c (get_or c i l)
in_at [] i l h = absurd (omega arith)
in_at (x ∷ c) zero l h = (zero, omega arith, refl)
in_at (x ∷ c) (suc i) l h = let r = in_at c i l (omega arith) in (suc r.0, omega (arith, r.1), r.2)

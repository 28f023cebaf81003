-- Propagation in several steps.
use Rattle.std.proofs.Common.{◌≡◌, ◌≤◌, ◌∙◌, ℕ, List, All, refl, sym, subst, length}
use Rattle.gh_base.specs.declared.sizes.Sizes.{Sizes}
use Rattle.gh_base.specs.Atoms.{AreInRange}
use Rattle.gh_sat.specs.declared.propagation.Database.{Database}
use Rattle.gh_sat.specs.Trail.{Line, AreSteps}
use Rattle.gh_sat.specs.Watch.{AreGuarded}
use Rattle.gh_sat.specs.Propagation.{IsReady, Propagates}
use Rattle.gh_sat.proofs.WatchLemmas.{grows_not, grows_on, grows_long, guarded_on}
use Rattle.gh_sat.proofs.ListLemmas.{le_le}

-- nothing was done
pub propagates_not : (d : Database) (level : ℕ) (t : Line) → AreSteps t → Propagates d level t t
propagates_not d level t valid = record { valid = valid; sizes = refl; grows = grows_not d.clauses.now level t.steps }

-- first one, then the other
pub propagates_on : (d : Database) (level : ℕ) (a b c : Line) → Propagates d level a b → Propagates d level b c
    → Propagates d level a c
propagates_on d level a b c p q = record {
  valid = q.valid;
  sizes = q.sizes ∙ p.sizes;
  grows = grows_on d.clauses.now level a.steps b.steps c.steps p.grows q.grows;
}

-- what is needed stays
pub ready_on : (d : Database) (level : ℕ) (a b : Line) → IsReady d a → Propagates d level a b → IsReady d b
ready_on d level a b r p = record {
  range = subst (λ (s : Sizes). All (AreInRange s) d.clauses.now) (sym p.sizes) r.range;
  valid = p.valid;
}

-- the trail gets no shorter
pub propagates_long : (d : Database) (level : ℕ) (a b : Line) (n : ℕ) → n ≤ length a.steps → Propagates d level a b
    → n ≤ length b.steps
propagates_long d level a b n h p = le_le h (grows_long d.clauses.now level a.steps b.steps p.grows)

-- what is guarded stays so
pub propagates_guarded : (d : Database) (level : ℕ) (a b : Line) (head looked : ℕ) → head ≤ length a.steps
    → Propagates d level a b → AreGuarded d.clauses.now a.steps head looked
    → AreGuarded d.clauses.now b.steps head looked
propagates_guarded d level a b head looked h p w =
    guarded_on d.clauses.now level a.steps b.steps head looked h p.grows w

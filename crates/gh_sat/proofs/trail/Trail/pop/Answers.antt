use Rattle.std.proofs.Common.{◌≡◌, ◌≤◌, ◌∙◌, ◌++◌, ◌∷◌, [], ℕ, List, None, ap, sym, subst, refl, length}
use Rattle.std.specs.Prelude.{vec_capacity}
use Rattle.gh_base.specs.Assignments.{Partial, with_value}
use Rattle.gh_base.specs.Atoms.{count_of}
use Rattle.gh_sat.specs.declared.trail.Step.{Step}
use Rattle.gh_sat.specs.Trail.{Line, AreValues, ArePlaces}
use Rattle.gh_base.proofs.ListLemmas.{get_front}
use Rattle.gh_sat.proofs.ListLemmas.{le_along}
use Rattle.gh_sat.proofs.TrailLemmas.{values_less}
use Rattle.gh_sat.proofs.trail.Trail.pop.Goals as goal

less : (p q : Partial) (places : List ℕ) (old new : List Step) (capacity capacity' : ℕ) (x : Step)
    → AreValues p old → ArePlaces p.sizes places old → length places ≡ count_of p.sizes → count_of p.sizes ≤ capacity
    → old ≡ new ++ x ∷ [] → q ≡ with_value p x.lit.atom None → capacity' ≡ capacity
    → AreValues q new × ArePlaces q.sizes places new × (length places ≡ count_of q.sizes)
    × (count_of q.sizes ≤ capacity')
less p q places old new capacity capacity' x v at long room is made same =
    let next : AreValues (with_value p x.lit.atom None) new = values_less p new x (subst (AreValues p) is v) in
    subst (λ (r : Partial). AreValues r new × ArePlaces r.sizes places new × (length places ≡ count_of r.sizes)
    × (count_of r.sizes ≤ capacity')) (sym made) (
      next,
      λ i y here. subst (ArePlaces p.sizes places) is at i y (get_front new (x ∷ []) i y here),
      long,
      le_along refl (sym same) room,
    )

pub invariant_of-self-2 : goal.invariant_of-self-2
invariant_of-self-2 c =
    let s = c.self.inside in
    let i = c.self.invariant in
    less s.values c.clear.new.self s.places.items s.steps.items c.pop.new.self.items
    (vec_capacity s.steps) (vec_capacity c.pop.new.self) c.in-Some.step
    i.0 i.1 i.2 i.3 c.in-Some.ensures.items c.clear.ensures.table c.pop.ensures.capacity

pub returns : goal.returns
returns c =
    let s = c.self.inside in
    let x = c.in-Some.step in (
      x,
      sym c.self.view_is
          ∙ ap (λ (steps : List Step). let t : Line = record { sizes = s.values.sizes; steps = steps } in t)
          c.in-Some.ensures.items
          ∙ ap (λ (p : Partial). let t : Line = record { sizes = p.sizes; steps = c.pop.new.self.items ++ x ∷ [] } in t)
          (sym c.clear.ensures.table),
    )

use Rattle.std.proofs.Common.{◌≡◌, ◌≤◌, ◌<◌, ◌+◌, arith, ◌∙◌, ◌++◌, ◌∷◌, [], ℕ, List, Some, ap, sym, subst, refl}
use Rattle.std.proofs.Common.{length, length-set}
use Rattle.std.specs.Prelude.{slice_set, vec_capacity}
use Rattle.gh_base.specs.Assignments.{Partial, with_value}
use Rattle.gh_base.specs.Atoms.{IsInRange, count_of, number_of}
use Rattle.gh_sat.specs.declared.trail.Step.{Step}
use Rattle.gh_sat.specs.Trail.{Line, IsFree, AreValues, ArePlaces}
use Rattle.gh_sat.specs.contracts.trail.Trail.{the_view, the_invariant}
use Rattle.gh_sat.specs.declared.trail.Trail.TheInside.{Inside}
use Rattle.gh_sat.proofs.ListLemmas.{le_along, le_le, one_less}
use Rattle.gh_sat.proofs.TrailLemmas.{room_for, values_more, places_more, steps_of}
use Rattle.gh_sat.proofs.trail.Trail.put.Goals as goal

range : (s : Inside) (now : Line) (x : Step) → the_view s ≡ now → IsInRange now.sizes x.lit.atom
    → IsInRange s.values.sizes x.lit.atom
range s now x is h = subst (λ (t : Line). IsInRange t.sizes x.lit.atom) (sym is) h

free : (s : Inside) (now : Line) (x : Step) → the_view s ≡ now → IsFree now.steps x.lit.atom
    → IsFree s.steps.items x.lit.atom
free s now x is h = subst (λ (t : Line). IsFree t.steps x.lit.atom) (sym is) h

room : (s : Inside) (x : Step) → the_invariant s → IsInRange s.values.sizes x.lit.atom → IsFree s.steps.items x.lit.atom
    → length s.steps.items + 1 ≤ vec_capacity s.steps
room s x i r f = le_le (room_for s.values s.steps.items x.lit.atom i.0 f r) (le_along (sym i.0.long) refl i.3)

more : (p q : Partial) (places places' : List ℕ) (old new : List Step) (number len capacity capacity' : ℕ)
    (x : Step) → AreValues p old → ArePlaces p.sizes places old → length places ≡ count_of p.sizes
    → count_of p.sizes ≤ capacity → new ≡ old ++ x ∷ []
    → q ≡ with_value p x.lit.atom (Some x.lit.positive) → capacity' ≡ capacity
    → number ≡ number_of p.sizes x.lit.atom → len ≡ length old → places' ≡ slice_set places number len
    → IsInRange p.sizes x.lit.atom → IsFree old x.lit.atom
    → AreValues q new × ArePlaces q.sizes places' new
    × (length places' ≡ count_of q.sizes) × (count_of q.sizes ≤ capacity')
more p q places places' old new number len capacity capacity' x v at long room is made same num place set r f =
    let n : ℕ = number_of p.sizes x.lit.atom in
    let made_places : places' ≡ slice_set places n (length old) =
    set ∙ ap (λ k. slice_set places k len) num ∙ ap (slice_set places n) place in
    let goal_of : Partial → List ℕ → List Step → Type 0 =
    λ w ps steps. AreValues w steps × ArePlaces w.sizes ps steps
    × (length ps ≡ count_of w.sizes) × (count_of w.sizes ≤ capacity') in
    subst (λ (w : Partial). goal_of w places' new) (sym made)
    (subst (λ ps. goal_of (with_value p x.lit.atom (Some x.lit.positive)) ps new) (sym made_places)
    (subst (goal_of (with_value p x.lit.atom (Some x.lit.positive)) (slice_set places n (length old))) (sym is) (
      values_more p old x v f r,
      places_more p.sizes places old x at v.range f r long,
      length-set places n (length old) ∙ long,
      le_along refl (sym same) room,
    )))

pub push_reserved-requires : goal.push_reserved-requires
push_reserved-requires c =
    let s = c.self.inside in
    let r = range s c.args.self.now c.args.step c.self.view_is c.requires.range in
    let f = free s c.args.self.now c.args.step c.self.view_is c.requires.free in
    let few : length s.steps.items < vec_capacity s.steps = one_less (room s c.args.step c.self.invariant r f) in
    omega arith

pub invariant_of-self : goal.invariant_of-self
invariant_of-self c =
    let s = c.self.inside in
    let i = c.self.invariant in
    let r = range s c.args.self.now c.args.step c.self.view_is c.requires.range in
    let f = free s c.args.self.now c.args.step c.self.view_is c.requires.free in
    let place : c.len.result ≡ length s.steps.items = omega arith in
    let number : c.number-number.result ≡ number_of s.values.sizes c.args.step.lit.atom =
    c.number-number.ensures.number ∙ ap (λ z. number_of z c.args.step.lit.atom) c.sizes.ensures.sizes in
    more s.values c.set.new.self s.places.items _ s.steps.items c.push_reserved.new.self.items
    c.number-number.result c.len.result (vec_capacity s.steps) (vec_capacity c.push_reserved.new.self) c.args.step
    i.0 i.1 i.2 i.3 c.push_reserved.ensures.items c.set.ensures.table c.push_reserved.ensures.capacity number
    place refl r f

pub returns-clause-valid : goal.returns-clause-valid
returns-clause-valid c =
    steps_of c.set.new.self c.push_reserved.new.self.items (invariant_of-self c).0

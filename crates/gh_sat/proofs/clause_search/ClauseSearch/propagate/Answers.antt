use Rattle.std.proofs.Common.{All, ◌≡◌, ◌≤◌, ◌∙◌, ◌++◌, ◌∷◌, [], ℕ, List, Option, Some, None, arith, ap, sym, subst}
use Rattle.std.proofs.Common.{refl, length}
use Rattle.std.specs.Prelude.{slice_get, IfSome, IfNone}
use Rattle.gh_base.specs.declared.atom.Lit.{Lit}
use Rattle.gh_base.specs.declared.sizes.Sizes.{Sizes}
use Rattle.gh_base.specs.Atoms.{AreInRange, count_of}
use Rattle.gh_sat.specs.declared.trail.Step.{Step}
use Rattle.gh_sat.specs.Trail.{SearchState, AreSteps}
use Rattle.gh_sat.specs.Status.{IsFalseOrUnit, IsSettled, Grows, IsFalseClause}
use Rattle.gh_sat.specs.Watch.{AreGuarded, AreListed}
use Rattle.gh_sat.specs.Learn.{IsConflictAt}
use Rattle.gh_sat.specs.Whole.{IsUnderWay, GivesLast}
use Rattle.gh_sat.specs.contracts.clause_search.ClauseSearch.{the_view}
use Rattle.gh_sat.proofs.ListLemmas.{le_along}
use Rattle.gh_sat.proofs.WholeLemmas.{whole_grow, conflict_of, settled_from}
use Rattle.gh_sat.proofs.clause_search.ClauseSearch.propagate.Goals.{After-propagate}
use Rattle.gh_sat.proofs.clause_search.ClauseSearch.propagate.Goals as goal

pub propagate-requires-clause-listed : goal.propagate-requires-clause-listed
propagate-requires-clause-listed c =
    subst (λ (cs : List (List Lit)). AreListed c.self.inside.trail.sizes cs c.self.inside.occurrences)
    (sym c.as_slice.ensures.value) c.self.invariant.0.listed

pub propagate-requires-clause-ready : goal.propagate-requires-clause-ready
propagate-requires-clause-ready c =
    let i = c.self.invariant in
    let z = c.self.inside.trail.sizes in
    record {
      range = subst (λ (cs : List (List Lit)). All (AreInRange z) cs) (sym c.as_slice.ensures.value) i.0.sound.in_range;
      valid = i.0.sound.steps;
    }

pub invariant_of-self : goal.invariant_of-self
invariant_of-self c =
    let s = the_view c.self.inside in
    let i = c.self.invariant in
    let p = c.propagate.ensures in
    let new = c.propagate.new.trail.steps in
    let cs : c.as_slice.result.now ≡ s.clauses = c.as_slice.ensures.value in
    let level : c.len-level.result ≡ length s.starts = omega arith in
    let grows : Grows s.clauses (length s.starts) s.trail new =
    subst (λ n. Grows s.clauses n s.trail new) level
    (subst (λ (x : List (List Lit)). Grows x c.len-level.result s.trail new) cs p.propagates.grows) in
    let valid : AreSteps (record { sizes = s.sizes; steps = new }) =
    subst (λ (z : Sizes). AreSteps (record { sizes = z; steps = new })) p.propagates.sizes p.propagates.valid in
    let within : c.propagate.new.looked ≤ length s.clauses = le_along refl (ap length cs) p.looked in
    let guarded : AreGuarded s.clauses new c.propagate.new.head c.propagate.new.looked =
    subst (λ (x : List (List Lit)). AreGuarded x new c.propagate.new.head c.propagate.new.looked) cs p.guarded in
    let h = whole_grow s c.self.inside.counts.items c.self.inside.looked c.self.inside.head c.propagate.new.looked
    c.propagate.new.head c.self.inside.occurrences new i.0 grows valid within p.head guarded in
    let count : count_of s.sizes ≡ count_of c.propagate.new.trail.sizes = ap count_of (sym p.propagates.sizes) in (
      subst (λ (z : Sizes). IsUnderWay (record { sizes = z; clauses = s.clauses; trail = new; starts = s.starts })
          c.self.inside.counts.items c.propagate.new.looked c.propagate.new.head c.self.inside.occurrences)
          (sym p.propagates.sizes) h,
      le_along count refl i.1,
      le_along count refl i.2,
      i.3,
      i.4 ∙ count,
    )

pub returns-clause-last : goal.returns-clause-last
returns-clause-last c =
    let s = the_view c.self.inside in
    let p = c.propagate.ensures in
    let new = c.propagate.new.trail.steps in
    let level : c.len-level.result ≡ length s.starts = omega arith in
    let here : GivesLast s new = λ before d u e unit.
    let r = p.last before d u (c.as_slice.ensures.value ∙ e) unit in (
      r.0,
      r.1 ∙ ap (λ (n : ℕ). s.trail
          ++ (let x : Step = record { lit = u; level = n; reason = Some (length before) } in x) ∷ [] ++ r.0) level,
    ) in
    subst (λ (t : SearchState). GivesLast t new) c.self.view_is here

conflicts : (t : SearchState) (counts : List ℕ) (looked head : ℕ) (lists : List (List ℕ)) (o : Option ℕ)
    → IsUnderWay t counts looked head lists → IfSome o (λ k. IsFalseClause t.clauses t.trail k)
    → IfSome o (λ k. IsConflictAt t k)
conflicts t counts looked head lists None h f = tt
conflicts t counts looked head lists (Some k) h f = conflict_of t counts looked head lists k f.0 h f.1 f.2

settles : (t : SearchState) (o : Option ℕ)
    → IfNone o ((k : ℕ) (c : List Lit) → slice_get t.clauses k ≡ Some c → IsFalseOrUnit t.trail c → ⊥)
    → IfNone o (IsSettled t)
settles t None f = settled_from t f
settles t (Some k) f = tt

-- the search after it
abbrev state : After-propagate → SearchState
state c = record {
  sizes = c.propagate.new.trail.sizes;
  clauses = (the_view c.self.inside).clauses;
  trail = c.propagate.new.trail.steps;
  starts = (the_view c.self.inside).starts;
}

pub returns-clause-conflict : goal.returns-clause-conflict
returns-clause-conflict c =
    let p = c.propagate.ensures in
    let new = c.propagate.new.trail.steps in
    let t = state (goal.at.returns-clause-conflict c).After-propagate in
    conflicts t c.self.inside.counts.items c.propagate.new.looked c.propagate.new.head c.self.inside.occurrences
    c.propagate.result (invariant_of-self c).0
    (subst (λ (x : List (List Lit)). IfSome c.propagate.result (λ k. IsFalseClause x new k)) c.as_slice.ensures.value
    p.conflict)

pub returns-clause-settled : goal.returns-clause-settled
returns-clause-settled c =
    let p = c.propagate.ensures in
    let new = c.propagate.new.trail.steps in
    let t = state (goal.at.returns-clause-settled c).After-propagate in
    settles t c.propagate.result
    (subst (λ (x : List (List Lit)). IfNone c.propagate.result
    ((k : ℕ) (d : List Lit) → slice_get x k ≡ Some d → IsFalseOrUnit new d → ⊥)) c.as_slice.ensures.value p.settled)

pub returns-clause-sound : goal.returns-clause-sound
returns-clause-sound c = (invariant_of-self c).0.sound

pub returns-clause-few : goal.returns-clause-few
returns-clause-few c = (invariant_of-self c).0.room

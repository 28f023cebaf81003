use Rattle.std.proofs.Common.{Option, List, All, sym, subst}
use Rattle.std.specs.Prelude.{IfSome, IfNone, Some, None}
use Rattle.gh_base.specs.declared.atom.Atom.{Atom}
use Rattle.gh_base.specs.declared.atom.Lit.{Lit}
use Rattle.gh_base.specs.Atoms.{IsInRange}
use Rattle.gh_sat.specs.Status.{IsSettled, IsSatisfiedOrFalse, AreSatisfied, OccursIn}
use Rattle.gh_sat.specs.Trail.{SearchState, IsFree}
use Rattle.gh_sat.specs.contracts.clause_search.ClauseSearch.{the_view}
use Rattle.gh_sat.proofs.NeededLemmas.{all_satisfied}
use Rattle.gh_sat.proofs.clause_search.ClauseSearch.next_needed.Goals as goal

satisfied : (s : SearchState) (o : Option Atom) → IsSettled s → IfNone o (All (IsSatisfiedOrFalse s.trail) s.clauses)
    → IfNone o (AreSatisfied s)
satisfied s None calm h = all_satisfied s calm h
satisfied s (Some a) calm h = h

pub returns-clause-some : goal.returns-clause-some
returns-clause-some c =
    subst (λ (t : SearchState). IfSome c.first_needed.result (λ (a : Atom). IsInRange t.sizes a × IsFree t.trail a))
    c.self.view_is c.first_needed.ensures.some

pub returns-clause-none : goal.returns-clause-none
returns-clause-none c =
    let s = the_view c.self.inside in
    let r = c.first_needed.result in
    subst (λ (t : SearchState). IfNone r (AreSatisfied t)) c.self.view_is
    (satisfied s r (subst IsSettled (sym c.self.view_is) c.requires)
    (subst (λ (cs : List (List Lit)). IfNone r (All (IsSatisfiedOrFalse s.trail) cs)) c.as_slice.ensures.value
    c.first_needed.ensures.none))

pub returns-clause-occurs : goal.returns-clause-occurs
returns-clause-occurs c =
    let r = c.first_needed.result in
    subst (λ (t : SearchState). IfSome r (OccursIn t.clauses)) c.self.view_is
    (subst (λ (cs : List (List Lit)). IfSome r (OccursIn cs)) c.as_slice.ensures.value c.first_needed.ensures.occurs)

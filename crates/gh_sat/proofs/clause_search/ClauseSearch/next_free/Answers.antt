use Rattle.std.proofs.Common.{subst}
use Rattle.std.specs.Prelude.{IfSome, IfNone}
use Rattle.gh_base.specs.declared.atom.Atom.{Atom}
use Rattle.gh_base.specs.Atoms.{IsInRange}
use Rattle.gh_sat.specs.Trail.{SearchState, IsFree}
use Rattle.gh_sat.proofs.clause_search.ClauseSearch.next_free.Goals as goal

pub returns-clause-none : goal.returns-clause-none
returns-clause-none c =
    subst (λ (t : SearchState). IfNone c.next_free.result ((a : Atom) → IsInRange t.sizes a → IsFree t.trail a → ⊥))
    c.self.view_is c.next_free.ensures.none

pub returns-clause-some : goal.returns-clause-some
returns-clause-some c =
    subst (λ (t : SearchState). IfSome c.next_free.result (λ (a : Atom). IsInRange t.sizes a × IsFree t.trail a))
    c.self.view_is c.next_free.ensures.some

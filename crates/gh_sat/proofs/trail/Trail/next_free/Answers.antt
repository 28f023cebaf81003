use Rattle.std.proofs.Common.{subst}
use Rattle.gh_base.specs.declared.atom.Atom.{Atom}
use Rattle.gh_base.specs.Atoms.{IsInRange}
use Rattle.gh_sat.specs.Trail.{Line, IsFree}
use Rattle.gh_sat.proofs.TrailLemmas.{none_free}
use Rattle.gh_sat.proofs.trail.Trail.next_free.Goals as goal

pub returns-in_err-number-clause-none : goal.returns-in_err-number-clause-none
returns-in_err-number-clause-none c =
    let s = c.self.inside in
    rw c.from_residual.ensures
    (subst (λ (t : Line). (a : Atom) → IsInRange t.sizes a → IsFree t.steps a → ⊥) c.self.view_is
    (none_free s.values s.steps.items c.self.invariant.0 c.in_err-number.ensures.none))

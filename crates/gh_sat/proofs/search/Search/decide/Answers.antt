use Rattle.std.proofs.Common.{refl, subst}
use Rattle.gh_base.specs.declared.atom.Atom.{Atom}
use Rattle.gh_base.specs.Atoms.{IsInRange}
use Rattle.gh_sat.specs.Trail.{SearchState, IsFree}
use Rattle.gh_sat.proofs.search.Search.decide.Goals as goal

pub returns-in_err-atom-clause-none : goal.returns-in_err-atom-clause-none
returns-in_err-atom-clause-none g c =
    rw c.from_residual.ensures (
      refl,
      subst (λ (t : SearchState). (a : Atom) → IsInRange t.sizes a → IsFree t.trail a → ⊥) c.self.view_is
          c.in_err-atom.ensures.none,
    )

use Rattle.std.proofs.Common.{subst, sym}
use Rattle.gh_base.specs.Atoms.{IsInRange}
use Rattle.gh_sat.specs.Trail.{Line, IsTruth}
use Rattle.gh_sat.proofs.TrailLemmas.{value_is}
use Rattle.gh_sat.proofs.trail.Trail.value.Goals as goal

pub returns-clause-value : goal.returns-clause-value
returns-clause-value c =
    let s = c.self.inside in
    let range : IsInRange s.values.sizes c.args.lit.atom =
    subst (λ (t : Line). IsInRange t.sizes c.args.lit.atom) (sym c.self.view_is) c.requires in
    subst (λ (t : Line). IsTruth t.steps c.args.lit c.value.result) c.self.view_is
    (value_is s.values s.steps.items c.args.lit c.value.result c.self.invariant.0 range c.value.ensures)

use Rattle.std.proofs.Common.{false, sym, subst}
use Rattle.gh_base.specs.declared.atom.Lit.{Lit}
use Rattle.gh_sat.specs.Trail.{SearchState}
use Rattle.gh_sat.specs.Theory.{HasNoConflict}
use Rattle.gh_sat.proofs.TheoryLemmas.{beside_open}
use Rattle.gh_sat.proofs.search.Search.open.Goals as goal

pub invariant_of-self : goal.invariant_of-self
invariant_of-self g c =
    let T = g.T.Theory in
    let s = c.self.inside.search in
    let calm : HasNoConflict (T.valid s.sizes) s.trail =
    subst (λ (t : SearchState). HasNoConflict (T.valid t.sizes) t.trail) (sym c.self.view_is) c.requires.consistent in
    let lit : Lit = record { atom = c.args.atom; positive = false } in
    beside_open T.valid (T.asserted c.self.inside.theory) (T.sizes c.self.inside.theory) s c.assume.new.self lit
    c.self.invariant calm c.assume.ensures.opens c.assume.ensures.sound

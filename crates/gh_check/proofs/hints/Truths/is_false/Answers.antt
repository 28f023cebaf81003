use Rattle.std.proofs.Common.{◌↔◌, IsTrue, not, sym, subst}
use Rattle.std.specs.Prelude.{Contains}
use Rattle.gh_base.specs.Atoms.{opposite, IsInRange}
use Rattle.gh_check.specs.Truths.{TruthSet}
use Rattle.gh_check.proofs.TruthLemmas.{told_some}
use Rattle.gh_check.proofs.hints.Truths.is_false.Goals as goal

pub returns-in-Some : goal.returns-in-Some
returns-in-Some c =
    subst (λ (t : TruthSet). IsTrue (not c.in-Some.truth) ↔ Contains t.lits (opposite c.args.lit)) c.self.view_is
    (told_some c.self.inside.table c.self.inside.lits.items c.args.lit c.in-Some.truth c.self.invariant
    (subst (λ (t : TruthSet). IsInRange t.sizes c.args.lit.atom) (sym c.self.view_is) c.requires)
    (sym c.in-Some.ensures))

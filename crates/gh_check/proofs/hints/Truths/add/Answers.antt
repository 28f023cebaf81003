use Rattle.std.proofs.Common.{sym, subst}
use Rattle.std.specs.Prelude.{Contains}
use Rattle.gh_base.specs.Atoms.{opposite, IsInRange}
use Rattle.gh_check.specs.Truths.{TruthSet, IsTable, IsConsistent}
use Rattle.gh_check.proofs.TruthLemmas.{table_add, apart_add}
use Rattle.gh_check.proofs.hints.Truths.add.Goals as goal

pub invariant_of-self-2 : goal.invariant_of-self-2
invariant_of-self-2 c =
    subst (IsTable c.set.new.self) (sym c.in_ok-push.ensures.items)
    (table_add c.self.inside.table c.set.new.self c.self.inside.lits.items c.args.lit c.self.invariant
    c.set.ensures.meaning
    (subst (λ (t : TruthSet). IsInRange t.sizes c.args.lit.atom) (sym c.self.view_is) c.requires.range)
    (subst (λ (t : TruthSet). Contains t.lits (opposite c.args.lit) → ⊥) (sym c.self.view_is) c.requires.not_false))

pub returns-clause-consistent : goal.returns-clause-consistent
returns-clause-consistent c =
    subst IsConsistent (sym c.in_ok-push.ensures.items)
    (apart_add c.self.inside.lits.items c.args.lit c.self.invariant.apart
    (subst (λ (t : TruthSet). Contains t.lits (opposite c.args.lit) → ⊥) (sym c.self.view_is) c.requires.not_false))

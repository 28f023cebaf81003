use Rattle.std.proofs.Common.{refl, sym, subst}
use Rattle.gh_base.specs.declared.atom.Lit.{Lit}
use Rattle.gh_base.specs.Atoms.{IsInRange}
use Rattle.gh_check.proofs.RestLemmas.{in_range, unit_rests, open_rests, true_by, false_by}
use Rattle.gh_check.proofs.root_units.rests.Goals as goal

pub is_false-requires : goal.is_false-requires
is_false-requires c =
    subst (λ (x : Lit). IsInRange c.args.told.now.sizes x.atom) (sym c.negated.ensures)
    (in_range c.args.told.now.sizes c.args.clause.now c.in-Unit.lit c.requires c.in-Unit.ensures.there)

pub returns-in-False : goal.returns-in-False
returns-in-False c = ((λ t. absurd (cc)), λ h. absurd (h.not_false c.in-False.ensures))

pub returns-in-Unit : goal.returns-in-Unit
returns-in-Unit c =
    let set = c.args.told.now.lits in
    let one = c.in-Unit.ensures in (
      (λ t. unit_rests c.args.told.now.sizes set c.args.clause.now c.in-Unit.lit c.requires one
          (true_by set c.in-Unit.lit c.negated.result c.negated.ensures (c.is_false.ensures.0 t))),
      (λ h. c.is_false.ensures.1
          (false_by set c.in-Unit.lit c.negated.result c.negated.ensures
          (h.forced c.in-Unit.lit one.there one.others))),
    )

pub returns-in-Open : goal.returns-in-Open
returns-in-Open c = (
  (λ t. open_rests c.args.told.now.sizes c.args.told.now.lits c.args.clause.now c.requires
      c.in-Open.ensures),
  λ h. refl,
)

use Rattle.std.proofs.Common.{refl, sym, subst}
use Rattle.gh_check.specs.Truths.{TruthSet}
use Rattle.gh_check.specs.RootUnits.{AreAtRest}
use Rattle.gh_check.proofs.root_units.is_closed.Goals as goal

pub returns-then-not-are_apart : goal.returns-then-not-are_apart
returns-then-not-are_apart c =
    ((λ t. absurd (cc)), λ h. let f = c.if-not-are_apart.ensures.1 h.consistent in absurd (cc))

pub returns : goal.returns
returns c =
    let Rest : TruthSet → Type 0 = λ (t : TruthSet). AreAtRest t.lits c.args.kept.now.clauses in (
      (λ t. record {
        consistent = c.if-not-are_apart.ensures.0 refl;
        at_rest = subst Rest c.both.ensures (c.all_rest.ensures.0 t);
      }),
      (λ h. c.all_rest.ensures.1 (subst Rest (sym c.both.ensures) h.at_rest)),
    )

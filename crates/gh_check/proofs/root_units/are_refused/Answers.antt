use Rattle.std.proofs.Common.{◌++◌, subst}
use Rattle.std.specs.Prelude.{Contains}
use Rattle.std.proofs.lemmas.List.Elements.{All-contains}
use Rattle.gh_base.specs.Atoms.{opposite}
use Rattle.gh_sat.specs.Theory.{IsRefutedBy}
use Rattle.gh_check.specs.Truths.{TruthSet, IsNotFalse}
use Rattle.gh_check.proofs.root_units.are_refused.Goals as goal

pub returns-in-None : goal.returns-in-None
returns-in-None c =
    let falsified = subst (λ (t : TruthSet). IsRefutedBy t.lits c.args.lits.now) c.both.ensures c.in-None.ensures in
    ((λ t. record { falsified = falsified; closed = c.is_closed.ensures.0 t }), λ h. c.is_closed.ensures.1 h.closed)

pub returns-in-Some : goal.returns-in-Some
returns-in-Some c =
    let found =
    subst (λ (t : TruthSet). IsNotFalse t.lits c.args.lits.now c.in-Some._one) c.both.ensures c.in-Some.ensures in (
      (λ t. absurd (cc)),
      (λ h. absurd (found.1 (All-contains (λ m. Contains (c.args.fixed.now.lits ++ c.args.above.now.lits) (opposite m))
          c.args.lits.now c.in-Some._one h.falsified found.0))),
    )

use Rattle.std.proofs.Common.{sym, ap, subst}
use Rattle.gh_check.specs.Kept.{present}
use Rattle.gh_check.specs.Truths.{TruthSet}
use Rattle.gh_check.specs.RootUnits.{AreGivenBy}
use Rattle.gh_check.proofs.RootUnitsLemmas.{nothing_given}
use Rattle.gh_check.proofs.root_units.RootUnits.new.Goals as goal

pub returns : goal.returns
returns c =
    λ entries. record {
      fixed = ap (λ (t : TruthSet). t.sizes) c.in_ok-fixed.ensures;
      above = ap (λ (t : TruthSet). t.sizes) c.in_ok-above.ensures;
      given =
          subst (AreGivenBy (present entries)) (sym (ap (λ (t : TruthSet). t.lits) c.in_ok-fixed.ensures))
          (nothing_given (present entries));
    }

use Rattle.std.proofs.Common.{◌∙◌}
use Rattle.gh_check.proofs.root_units.fix_all.Goals as goal

pub loop-position-preserved : goal.loop-position-preserved
loop-position-preserved c =
    record {
      sizes = c.in_ok-fix.ensures.sizes ∙ c.loop-position.invariant.sizes;
      given = λ h. c.in_ok-fix.ensures.given (c.loop-position.invariant.given h);
    }

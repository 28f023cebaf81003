use Rattle.std.proofs.Common.{◌∙◌, ap}
use Rattle.gh_check.specs.Truths.{TruthSet}
use Rattle.gh_check.proofs.KeptLemmas.{kept_first}
use Rattle.gh_check.proofs.check.nothing_before.Goals as goal

pub returns-clause-ready : goal.returns-clause-ready
returns-clause-ready c =
    let entries = c.in_ok-kept.kept.clauses in
    record {
      within = (kept_first c.args.ground.now c.args.lines.now c.in_ok-kept.kept c.in_ok-kept.ensures).within;
      root_units = tt;
      behind = c.new-3.ensures c.args.ground.now.sizes entries;
      truths = ap (λ (t : TruthSet). t.sizes) c.in_ok-truths.ensures ∙ c.sizes.ensures.sizes;
    }

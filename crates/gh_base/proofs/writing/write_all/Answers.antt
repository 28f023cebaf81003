use Rattle.std.proofs.Common.{rules, arith}
use Rattle.std.proofs.lemmas.Grind.{common_steps}
use Rattle.gh_base.proofs.Appending.{appends_rest}
use Rattle.gh_base.proofs.CallLemmas.{one_more}
use Rattle.gh_base.proofs.writing.write_all.Goals as goal

pub loop-done-preserved : goal.loop-done-preserved
loop-done-preserved g c =
    record {
      within = grind (arith, common_steps);
      written = search (rules, appends_rest);
      calm = search rules;
      few = search (rules, arith, one_more);
    }

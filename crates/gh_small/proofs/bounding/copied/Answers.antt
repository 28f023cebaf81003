use Rattle.std.proofs.Common.{sym}
use Rattle.gh_small.proofs.TakeLemmas.{taken}
use Rattle.gh_small.proofs.bounding.copied.Goals as goal

pub loop-k-preserved : goal.loop-k-preserved
loop-k-preserved c = record {
  copy =
      taken c.args.ground.now c.loop-k.copy c.push.new.self c.loop-k.k c.in-Some.clause.now c.in_ok-copy.field-0
      c.loop-k.invariant.copy (sym c.in-Some.ensures.found) c.in_ok-copy.ensures c.in_ok-push.ensures.ok;
}

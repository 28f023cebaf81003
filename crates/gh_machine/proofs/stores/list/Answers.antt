use Rattle.std.proofs.Common.{sym, ◌∙◌}
use Rattle.gh_machine.proofs.Begun.{unlisted_yet, listed_more}
use Rattle.gh_machine.proofs.stores.list.Goals as goal

pub add-requires : goal.add-requires
add-requires c = record {
  new = unlisted_yet c.args.store.now c.loop-i.store c.args.variables.now c.args.values.now c.loop-i.i
      c.index-variables-i.result c.requires.distinct c.loop-i-test.true c.requires.count (sym c.index-variables-i.is)
      c.loop-i.invariant;
}

pub loop-i-preserved : goal.loop-i-preserved
loop-i-preserved c =
    c.in_ok-add.ensures.ok ∙ listed_more c.args.store.now c.loop-i.store c.args.variables.now c.args.values.now
    c.loop-i.i c.index-variables-i.result _ c.loop-i-test.true c.requires.count (sym c.index-variables-i.is)
    c.loop-i.invariant

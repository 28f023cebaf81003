use Rattle.gh_symb.specs.Inside.{binding_of}
use Rattle.gh_symb.proofs.BindingLemmas.{over_more}
use Rattle.gh_symb.proofs.scope.Scope.over.Goals as goal

pub loop-entry-preserved : goal.loop-entry-preserved
loop-entry-preserved c =
    over_more c.entries-entry-items.result.now c.loop-entry.entry-index c.entry-item.result c.loop-entry-test.true
    c.entry-item.is c.loop-entry.binding c.set.new.self _ (binding_of c.args.others)
    c.term_of.ensures c.in_ok-set.ensures.ok c.loop-entry.invariant

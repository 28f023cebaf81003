use Rattle.gh_symb.specs.Tables.{bound_by}
use Rattle.gh_symb.proofs.BindingLemmas.{learned_more}
use Rattle.gh_symb.proofs.scope.Scope.learn.Goals as goal

pub loop-entry-preserved : goal.loop-entry-preserved
loop-entry-preserved c =
    learned_more c.entries-entry-items.result.now c.loop-entry.entry-index c.entry-item.result c.loop-entry-test.true
    c.entry-item.is (bound_by c.args.before.now) (bound_by c.loop-entry.self) (bound_by c.learn_one.new.self)
    (bound_by c.args.self.now)
    c.in_ok-learn_one.ensures c.loop-entry.invariant

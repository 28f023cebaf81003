use Rattle.gh_small.specs.Fewer.{counter_row}
use Rattle.gh_small.proofs.PushLemmas.{each_room, pushed_each}
use Rattle.gh_small.proofs.bounding.Numbers.push_counters.Goals as goal

pub push_row-requires-clause-room : goal.push_row-requires-clause-room
push_row-requires-clause-room c =
    each_room c.args.ground.now c.loop-t.ground c.args.self.terms
    (counter_row c.args.self.terms c.args.self.first c.args.self.cells) c.loop-t.t c.loop-t-test.true
    c.requires.room c.loop-t.invariant.ground

pub loop-t-preserved : goal.loop-t-preserved
loop-t-preserved c = record {
  ground =
      pushed_each c.args.ground.now c.loop-t.ground c.push_row.new.ground c.loop-t.t
      (counter_row c.args.self.terms c.args.self.first c.args.self.cells) c.loop-t.invariant.ground
      c.in_ok-push_row.ensures;
}

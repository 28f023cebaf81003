use Rattle.gh_small.specs.Fewer.{counter_clauses}
use Rattle.gh_small.proofs.PushLemmas.{each_room, pushed_each}
use Rattle.gh_small.proofs.bounding.Numbers.push_row.Goals as goal

pub push_counter-requires-clause-room : goal.push_counter-requires-clause-room
push_counter-requires-clause-room c =
    each_room c.args.ground.now c.loop-j.ground c.args.self.cells
    (counter_clauses c.args.self.terms c.args.self.first c.args.self.cells c.args.t) c.loop-j.j c.loop-j-test.true
    c.requires.room
    c.loop-j.invariant.ground

pub loop-j-preserved : goal.loop-j-preserved
loop-j-preserved c = record {
  ground =
      pushed_each c.args.ground.now c.loop-j.ground c.push_counter.new.ground c.loop-j.j
      (counter_clauses c.args.self.terms c.args.self.first c.args.self.cells c.args.t) c.loop-j.invariant.ground
      c.in_ok-push_counter.ensures;
}

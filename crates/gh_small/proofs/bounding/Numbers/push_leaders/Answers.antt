use Rattle.std.proofs.Common.{◌+◌, ◌≤◌, ◌∷◌, [], length, arith}
use Rattle.gh_small.specs.Fewer.{leader_clause}
use Rattle.gh_small.proofs.PushLemmas.{each_room}
use Rattle.gh_small.proofs.bounding.Numbers.push_leaders.Goals as goal

pub push_leader-requires-clause-room : goal.push_leader-requires-clause-room
push_leader-requires-clause-room c =
    let room : length c.loop-t.ground.clauses + 1 ≤ 4294967294 =
    each_room c.args.ground.now c.loop-t.ground c.args.self.terms (λ t. leader_clause c.args.self.first t ∷ [])
    c.loop-t.t c.loop-t-test.true c.requires.room c.loop-t.invariant.ground in
    omega arith

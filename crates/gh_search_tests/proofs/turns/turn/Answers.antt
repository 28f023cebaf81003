use Rattle.gh_sat.proofs.MeasureLemmas.{turn_decided, turn_learnt}
use Rattle.gh_search_tests.proofs.turns.turn.Goals as goal

pub returns-in_ok-propagate-in-None-clause-less : goal.returns-in_ok-propagate-in-None-clause-less
returns-in_ok-propagate-in-None-clause-less g c =
    let p = c.in_ok-propagate-in-None.ensures in
    turn_decided c.args.search.now c.decide.new.self c.propagate.new.self _ c.in-Some-decide.ensures.some.2
    p.moves.sizes p.moves.grows p.sound

pub returns-in_ok-propagate-in-Some-clause-less : goal.returns-in_ok-propagate-in-Some-clause-less
returns-in_ok-propagate-in-Some-clause-less g c =
    let p = c.in_ok-propagate-in-Some.ensures in
    let l = c.in_ok-learnt-in-Some.learnt in
    turn_learnt c.args.search.now c.learn.new.self c.backjump.new.self c.propagate-in-Some.new.self c.in-Some.k l.clause
    l.level l.unit c.requires.sound c.in_ok-learnt-in-Some.ensures.learnt
    c.in_ok-learnt-in-Some.ensures.added c.backjump.ensures p.moves.sizes p.last p.sound

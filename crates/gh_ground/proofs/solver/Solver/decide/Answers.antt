use Rattle.std.proofs.Common.{ap, sym, subst}
use Rattle.gh_sat.specs.Trail.{SearchState}
use Rattle.gh_sat.proofs.MeasureLemmas.{turn_decided}
use Rattle.gh_ground.specs.Kept.{IsUndecided}
use Rattle.gh_ground.proofs.KeptLemmas.{keeps_same, keeps_then}
use Rattle.gh_ground.proofs.solver.Solver.decide.Goals as goal

pub returns-in-None-clause-open : goal.returns-in-None-clause-open
returns-in-None-clause-open c =
    let r = c.requires in
    subst IsUndecided (sym c.in-None.ensures.none.0)
    (record { sound = r.sound; known = r.known; satisfied = c.in-None.ensures.none.1 })

pub returns-in-None-clause-keeps : goal.returns-in-None-clause-keeps
returns-in-None-clause-keeps c =
    let same = c.in-None.ensures.none.0 in
    keeps_same c.args.self.now.search c.decide_needed.new.self c.args.self.now.lines
    (ap (λ (t : SearchState). t.sizes) same) (ap (λ (t : SearchState). t.clauses) same)

pub returns-in_ok-propagate-in-Some-clause-less : goal.returns-in_ok-propagate-in-Some-clause-less
returns-in_ok-propagate-in-Some-clause-less c =
    let p = c.in_ok-propagate-in-Some.ensures in
    turn_decided c.args.self.now.search c.decide_needed.new.self c.propagate.new.self.search _ c.in-Some.ensures.some.2
    p.moves.sizes p.moves.grows p.answered.sound

pub returns-in_ok-propagate-in-Some-clause-keeps : goal.returns-in_ok-propagate-in-Some-clause-keeps
returns-in_ok-propagate-in-Some-clause-keeps c =
    let old = c.args.self.now in
    let new = c.propagate.new.self in
    let mid = c.decide_needed.new.self in
    let is = c.in-Some.ensures.some.2 in
    keeps_then old.search mid new.search old.lines old.lines new.lines
    (keeps_same old.search mid old.lines (ap (λ (t : SearchState). t.sizes) is)
    (ap (λ (t : SearchState). t.clauses) is)) c.in_ok-propagate-in-Some.ensures.keeps

use Rattle.std.proofs.Common.{◌≡◌, ◌<◌, ◌+◌, ◌∷◌, ℕ, List, arith, inl, inr, subst, drop, get_or, length}
use Rattle.gh_sat.specs.Watch.{AreVisited}
use Rattle.gh_base.proofs.ListLemmas.{get_within}
use Rattle.gh_sat.proofs.ListLemmas.{drop_at, drop_past, lt_le}
use Rattle.gh_sat.proofs.WatchLemmas.{grows_not, grows_long, visited_next}
use Rattle.gh_sat.proofs.PropagationLemmas.{propagates_not, propagates_on, ready_on}
use Rattle.gh_sat.proofs.propagation.visit.Goals as goal
use Rattle.gh_sat.proofs.propagation.visit.Goals.{else-k-clauses-via-then-k-clauses+else-look}
use Rattle.gh_sat.proofs.propagation.visit.Goals.{else-k-clauses-via-else-k-clauses}

pub loop-j-init : goal.loop-j-init
loop-j-init c = record {
  propagates = propagates_not c.args.database.now c.args.level c.args.trail.now c.requires.ready.valid;
  visited = λ head looked lt s. s;
}

pub look-requires-clause-ready : goal.look-requires-clause-ready
look-requires-clause-ready c =
    let l = c.loop-j in
    ready_on c.args.database.now c.args.level c.args.trail.now l.trail c.requires.ready l.invariant.propagates

pub returns-then-look-clause-propagates : goal.returns-then-look-clause-propagates
returns-then-look-clause-propagates c =
    let l = c.loop-j in
    propagates_on c.args.database.now c.args.level c.args.trail.now l.trail c.look.new.trail l.invariant.propagates
    c.look.ensures.propagates

pub loop-j-preserved : goal.loop-j-preserved
loop-j-preserved c =
    let l = c.loop-j in
    let i = l.invariant in
    let p = i.propagates in
    let old = c.args.trail.now in
    let d = c.args.database.now in
    let cs = d.clauses.now in
    let n = get_or c.args.list.now l.j 0 in
    let later = drop (l.j + 1) c.args.list.now in
    let rest : drop l.j c.args.list.now ≡ n ∷ later = drop_at c.args.list.now l.j 0 c.loop-j-test.true in
    let up = grows_long cs c.args.level old.steps l.trail.steps p.grows in
    elim c.else-k-clauses.branch [
      | else-k-clauses-via-then-k-clauses+else-look w ↦
          let v = w.look.ensures in
          let new = w.look.new in
          rw w.trail-is (record {
            propagates = propagates_on d c.args.level old l.trail new.trail p v.propagates;
            visited = λ head looked lt s.
                visited_next cs c.args.level l.trail.steps new.trail.steps head looked n later (lt_le lt up)
                v.propagates.grows
                (λ e at. elim (v.guarded e at) [ inl t ↦ absurd (let f = w.if-look.false in cc) | inr k ↦ k ])
                (subst (λ (r : List ℕ). AreVisited cs l.trail.steps head looked r) rest (i.visited head looked lt s));
          })
      | else-k-clauses-via-else-k-clauses w ↦ rw w.trail-is (record {
        propagates = p;
        visited = λ head looked lt s.
            visited_next cs c.args.level l.trail.steps l.trail.steps head looked n later (lt_le lt up)
            (grows_not cs c.args.level l.trail.steps)
            (λ e at. let b = get_within cs n e at in absurd (omega (arith, w.if-k-clauses.false)))
            (subst (λ (r : List ℕ). AreVisited cs l.trail.steps head looked r) rest (i.visited head looked lt s));
      })
    ]

pub returns-clause-visited : goal.returns-clause-visited
returns-clause-visited c = λ head looked lt s.
    let l = c.loop-j in
    subst (λ (r : List ℕ). AreVisited c.args.database.now.clauses.now l.trail.steps head looked r)
    (drop_past c.args.list.now l.j c.loop-j-test.false) (l.invariant.visited head looked lt s)

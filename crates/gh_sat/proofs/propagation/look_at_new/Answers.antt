use Rattle.std.proofs.Common.{arith, inl, inr}
use Rattle.gh_sat.proofs.WatchLemmas.{guarded_looked}
use Rattle.gh_sat.proofs.PropagationLemmas.{propagates_not, propagates_on, propagates_long, propagates_guarded}
use Rattle.gh_sat.proofs.PropagationLemmas.{ready_on}
use Rattle.gh_sat.proofs.propagation.look_at_new.Goals as goal

pub loop-looked-init : goal.loop-looked-init
loop-looked-init c = record {
  propagates = propagates_not c.args.database.now c.args.level c.args.trail.now c.requires.ready.valid;
  within = c.requires.looked;
  guarded = λ head h w. w;
}

pub look-requires-clause-ready : goal.look-requires-clause-ready
look-requires-clause-ready c =
    let l = c.loop-looked in
    ready_on c.args.database.now c.args.level c.args.trail.now l.trail c.requires.ready l.invariant.propagates

pub returns-then-look-clause-propagates : goal.returns-then-look-clause-propagates
returns-then-look-clause-propagates c =
    let l = c.loop-looked in
    propagates_on c.args.database.now c.args.level c.args.trail.now l.trail c.look.new.trail l.invariant.propagates
    c.look.ensures.propagates

pub returns-then-look-clause-guarded : goal.returns-then-look-clause-guarded
returns-then-look-clause-guarded c = λ head h w.
    let l = c.loop-looked in
    let i = l.invariant in
    let d = c.args.database.now in
    propagates_guarded d c.args.level l.trail c.look.new.trail head l.looked
    (propagates_long d c.args.level c.args.trail.now l.trail head h i.propagates) c.look.ensures.propagates
    (i.guarded head h w)

pub loop-looked-preserved : goal.loop-looked-preserved
loop-looked-preserved c =
    let l = c.loop-looked in
    let i = l.invariant in
    let d = c.args.database.now in
    let new = c.look.new in
    record {
      propagates = propagates_on d c.args.level c.args.trail.now l.trail new.trail i.propagates
          c.look.ensures.propagates;
      within = omega arith;
      guarded = λ head h w.
          guarded_looked d.clauses.now new.trail.steps head l.looked
          (λ e at. elim (c.look.ensures.guarded e at) [
            | inl t ↦ absurd (let f = c.if-look.false in cc)
            | inr g ↦ g
          ])
          (propagates_guarded d c.args.level l.trail new.trail head l.looked
          (propagates_long d c.args.level c.args.trail.now l.trail head h i.propagates)
          c.look.ensures.propagates (i.guarded head h w));
    }

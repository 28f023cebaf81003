use Rattle.std.proofs.Common.{◌≡◌, ◌≤◌, ◌<◌, ◌+◌, ◌*◌, ◌∙◌, [], ℕ, List, Bool, true, Option, Some, None, arith, ap, sym}
use Rattle.std.proofs.Common.{subst, length, get_or}
use Rattle.std.specs.Prelude.{slice_get, IfNone}
use Rattle.std.specs.Option.{is_some}
use Rattle.std.proofs.lemmas.Option.{slice_get-get_or}
use Rattle.gh_base.specs.declared.atom.Lit.{Lit}
use Rattle.gh_base.specs.declared.sizes.Sizes.{Sizes}
use Rattle.gh_base.specs.Atoms.{IsInRange, count_of, opposite}
use Rattle.gh_sat.specs.declared.trail.Step.{Step}
use Rattle.gh_sat.specs.Trail.{Line}
use Rattle.gh_sat.specs.Watch.{AreVisited, clauses_of}
use Rattle.gh_base.proofs.ListLemmas.{get_within}
use Rattle.gh_sat.proofs.StatusLemmas.{nothing}
use Rattle.gh_sat.proofs.WatchLemmas.{visited_begin, visited_end}
use Rattle.gh_sat.proofs.PropagationLemmas.{propagates_not, propagates_on, propagates_long, propagates_guarded}
use Rattle.gh_sat.proofs.PropagationLemmas.{ready_on}
use Rattle.gh_sat.proofs.propagation.propagate_from.Goals as goal

abbrev no_step : Step
no_step = record { lit = nothing; level = 0; reason = None }

-- the step that the code reads
step_at : (t : Line) (steps steps' : List Step) (head : ℕ) → steps ≡ t.steps → steps' ≡ t.steps → head < length steps
    → slice_get t.steps head ≡ Some (get_or steps' head no_step)
step_at t steps steps' head e f h =
    let lt : head < length t.steps = subst (λ (s : List Step). head < length s) e h in
    slice_get-get_or t.steps head no_step lt ∙ ap (λ (s : List Step). Some (get_or s head no_step)) (sym f)

pub loop-head-init : goal.loop-head-init
loop-head-init c = record {
  propagates = propagates_not c.args.database.now c.args.level c.args.trail.now c.requires.ready.valid;
  within = c.requires.head;
  guarded = λ looked w. w;
}

pub of-list-requires-clause-range : goal.of-list-requires-clause-range
of-list-requires-clause-range c =
    let t = c.loop-head.trail in
    let at = step_at t c.steps.result.now c.steps-in-loop-head.result.now c.loop-head.head c.steps.ensures.steps
    c.steps-in-loop-head.ensures.steps c.loop-head-test.true in
    let r = c.steps.ensures.valid.range c.loop-head.head
    (get_or c.steps-in-loop-head.result.now c.loop-head.head no_step) at in
    subst (λ (s : Sizes). IsInRange s c.negated-lit.result.atom) (sym c.sizes.ensures.sizes)
    (subst (λ (l : Lit). IsInRange t.sizes l.atom) (sym c.negated-lit.ensures) r)

pub of-list-requires-clause-long : goal.of-list-requires-clause-long
of-list-requires-clause-long c =
    c.requires.lists ∙ ap (λ (s : Sizes). 2 * count_of s)
    (sym (c.sizes.ensures.sizes ∙ c.loop-head.invariant.propagates.sizes))

pub visit-conflict-requires : goal.visit-conflict-requires
visit-conflict-requires c =
    let l = c.loop-head in
    record {
      ready =
          ready_on c.args.database.now c.args.level c.args.trail.now l.trail c.requires.ready l.invariant.propagates;
    }

pub returns-then-is_some-clause-propagates : goal.returns-then-is_some-clause-propagates
returns-then-is_some-clause-propagates c =
    let l = c.loop-head in
    propagates_on c.args.database.now c.args.level c.args.trail.now l.trail c.visit-conflict.new.trail
    l.invariant.propagates c.visit-conflict.ensures.propagates

pub returns-then-is_some-clause-head : goal.returns-then-is_some-clause-head
returns-then-is_some-clause-head c =
    let l = c.loop-head in
    propagates_long c.args.database.now c.args.level l.trail c.visit-conflict.new.trail l.head l.invariant.within
    c.visit-conflict.ensures.propagates

pub returns-then-is_some-clause-guarded : goal.returns-then-is_some-clause-guarded
returns-then-is_some-clause-guarded c = λ looked w.
    let l = c.loop-head in
    let i = l.invariant in
    propagates_guarded c.args.database.now c.args.level l.trail c.visit-conflict.new.trail l.head looked i.within
    c.visit-conflict.ensures.propagates (i.guarded looked w)

none_of : (o : Option ℕ) (b : Bool) (P : Type 0) → b ≡ is_some o → (b ≡ true → ⊥) → IfNone o P → P
none_of None b P e n h = h
none_of (Some x) b P e n h = absurd (n e)

pub loop-head-preserved : goal.loop-head-preserved
loop-head-preserved c =
    let l = c.loop-head in
    let i = l.invariant in
    let p = i.propagates in
    let v = c.visit-conflict.ensures in
    let t = l.trail in
    let d = c.args.database.now in
    let cs = d.clauses.now in
    let occ = d.occurrences.now in
    let new = c.visit-conflict.new in
    let x = get_or c.steps-in-loop-head.result.now l.head no_step in
    let at = step_at t c.steps.result.now c.steps-in-loop-head.result.now l.head c.steps.ensures.steps
    c.steps-in-loop-head.ensures.steps c.loop-head-test.true in
    let lt : l.head < length t.steps = get_within t.steps l.head x at in
    let up : l.head + 1 ≤ length t.steps = omega arith in
    let list : clauses_of c.args.trail.now.sizes occ (opposite x.lit) ≡ c.of-list.result.now =
    sym (c.of-list.ensures ∙ ap (λ (z : Sizes). clauses_of z occ c.negated-lit.result)
    (c.sizes.ensures.sizes ∙ p.sizes)
    ∙ ap (λ (m : Lit). clauses_of c.args.trail.now.sizes occ m) c.negated-lit.ensures) in
    record {
      propagates = propagates_on d c.args.level c.args.trail.now t new.trail p v.propagates;
      within = propagates_long d c.args.level t new.trail (l.head + 1) up v.propagates;
      guarded = λ looked w.
          let done = none_of c.visit-conflict.result c.is_some.result _ c.is_some.ensures
          (λ e. let f = c.if-is_some.false in cc) v.visited in
          visited_end cs new.trail.steps l.head looked
          (done l.head looked lt
          (subst (λ (r : List ℕ). AreVisited cs t.steps l.head looked r) list
          (visited_begin c.args.trail.now.sizes cs occ t.steps l.head looked x c.requires.listed at
          (i.guarded looked w))));
    }

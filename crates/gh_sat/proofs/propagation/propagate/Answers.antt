use Rattle.std.proofs.Common.{◌≡◌, ◌*◌, ◌∙◌, ℕ, List, Bool, true, Option, Some, None, arith, ap, sym, subst, length}
use Rattle.std.specs.Prelude.{slice_get, IfNone}
use Rattle.std.specs.Option.{is_some}
use Rattle.gh_base.specs.declared.atom.Lit.{Lit}
use Rattle.gh_base.specs.declared.sizes.Sizes.{Sizes}
use Rattle.gh_base.specs.Atoms.{count_of}
use Rattle.gh_sat.specs.Trail.{Line, AreSteps}
use Rattle.gh_sat.specs.Status.{IsFalseOrUnit}
use Rattle.gh_sat.specs.Watch.{AreGuarded, AreListed}
use Rattle.gh_sat.proofs.WatchLemmas.{grows_on, guarded_all, grown_from}
use Rattle.gh_sat.proofs.PropagationLemmas.{propagates_on, propagates_long, propagates_guarded, ready_on}
use Rattle.gh_sat.proofs.propagation.propagate.Goals as goal

none_of : (o : Option ℕ) (b : Bool) (P : Type 0) → b ≡ is_some o → (b ≡ true → ⊥) → IfNone o P → P
none_of None b P e n h = h
none_of (Some x) b P e n h = absurd (n e)

pub returns-then-is_some-clause-head : goal.returns-then-is_some-clause-head
returns-then-is_some-clause-head c =
    let one = c.look_at_last-conflict in
    propagates_long c.args.database.now c.args.level c.args.trail.now one.new.trail c.args.head.now c.requires.head
    one.ensures.propagates

pub returns-then-is_some-clause-guarded : goal.returns-then-is_some-clause-guarded
returns-then-is_some-clause-guarded c =
    let one = c.look_at_last-conflict in
    propagates_guarded c.args.database.now c.args.level c.args.trail.now one.new.trail c.args.head.now c.args.looked.now
    c.requires.head one.ensures.propagates c.requires.guarded

pub look_at_new-conflict-requires-clause-ready : goal.look_at_new-conflict-requires-clause-ready
look_at_new-conflict-requires-clause-ready c =
    let one = c.look_at_last-conflict in
    ready_on c.args.database.now c.args.level c.args.trail.now one.new.trail c.requires.ready one.ensures.propagates

pub returns-then-is_some-2-clause-propagates : goal.returns-then-is_some-2-clause-propagates
returns-then-is_some-2-clause-propagates c =
    let one = c.look_at_last-conflict in
    let two = c.look_at_new-conflict in
    propagates_on c.args.database.now c.args.level c.args.trail.now one.new.trail two.new.trail one.ensures.propagates
    two.ensures.propagates

pub returns-then-is_some-2-clause-head : goal.returns-then-is_some-2-clause-head
returns-then-is_some-2-clause-head c =
    propagates_long c.args.database.now c.args.level c.args.trail.now c.look_at_new-conflict.new.trail c.args.head.now
    c.requires.head (returns-then-is_some-2-clause-propagates c)

pub returns-then-is_some-2-clause-guarded : goal.returns-then-is_some-2-clause-guarded
returns-then-is_some-2-clause-guarded c =
    let d = c.args.database.now in
    let one = c.look_at_last-conflict in
    let a = one.ensures.propagates in
    c.look_at_new-conflict.ensures.guarded c.args.head.now
    (propagates_long d c.args.level c.args.trail.now one.new.trail c.args.head.now c.requires.head a)
    (propagates_guarded d c.args.level c.args.trail.now one.new.trail c.args.head.now c.args.looked.now c.requires.head
    a
    c.requires.guarded)

pub propagate_from-requires-clause-ready : goal.propagate_from-requires-clause-ready
propagate_from-requires-clause-ready c =
    let d = c.args.database.now in
    let one = c.look_at_last-conflict in
    let two = c.look_at_new-conflict in
    ready_on d c.args.level one.new.trail two.new.trail
    (ready_on d c.args.level c.args.trail.now one.new.trail c.requires.ready one.ensures.propagates)
    two.ensures.propagates

pub propagate_from-requires-clause-head : goal.propagate_from-requires-clause-head
propagate_from-requires-clause-head c =
    let d = c.args.database.now in
    let one = c.look_at_last-conflict in
    let two = c.look_at_new-conflict in
    propagates_long d c.args.level one.new.trail two.new.trail c.args.head.now
    (propagates_long d c.args.level c.args.trail.now one.new.trail c.args.head.now c.requires.head
    one.ensures.propagates) two.ensures.propagates

pub propagate_from-requires-clause-lists : goal.propagate_from-requires-clause-lists
propagate_from-requires-clause-lists c =
    c.requires.lists ∙ ap (λ (s : Sizes). 2 * count_of s)
    (sym (c.look_at_new-conflict.ensures.propagates.sizes ∙ c.look_at_last-conflict.ensures.propagates.sizes))

pub propagate_from-requires-clause-listed : goal.propagate_from-requires-clause-listed
propagate_from-requires-clause-listed c =
    let d = c.args.database.now in
    subst (λ (z : Sizes). AreListed z d.clauses.now d.occurrences.now)
    (sym (c.look_at_new-conflict.ensures.propagates.sizes ∙ c.look_at_last-conflict.ensures.propagates.sizes))
    c.requires.listed

pub returns-clause-propagates : goal.returns-clause-propagates
returns-clause-propagates c =
    let d = c.args.database.now in
    let one = c.look_at_last-conflict in
    let two = c.look_at_new-conflict in
    let both = propagates_on d c.args.level c.args.trail.now one.new.trail two.new.trail one.ensures.propagates
    two.ensures.propagates in
    propagates_on d c.args.level c.args.trail.now two.new.trail c.propagate_from.new.trail both
    c.propagate_from.ensures.propagates

pub returns-clause-guarded : goal.returns-clause-guarded
returns-clause-guarded c =
    let d = c.args.database.now in
    let one = c.look_at_last-conflict in
    let two = c.look_at_new-conflict in
    let a = one.ensures.propagates in
    c.propagate_from.ensures.guarded two.new.looked
    (two.ensures.guarded c.args.head.now
    (propagates_long d c.args.level c.args.trail.now one.new.trail c.args.head.now c.requires.head a)
    (propagates_guarded d c.args.level c.args.trail.now one.new.trail c.args.head.now c.args.looked.now c.requires.head
    a
    c.requires.guarded))

settled : (t : Line) (clauses : List (List Lit)) (head looked : ℕ) (o : Option ℕ) → AreSteps t
    → IfNone o (head ≡ length t.steps) → looked ≡ length clauses → AreGuarded clauses t.steps head looked
    → IfNone o ((k : ℕ) (c : List Lit) → slice_get clauses k ≡ Some c → IsFalseOrUnit t.steps c → ⊥)
settled t clauses head looked None valid h e w =
    λ k c at bad. guarded_all t clauses head looked k c valid (omega (arith, h)) (omega (arith, e)) w at bad
settled t clauses head looked (Some x) valid h e w = tt

pub returns-clause-settled : goal.returns-clause-settled
returns-clause-settled c =
    let d = c.args.database.now in
    let two = c.look_at_new-conflict in
    let all : two.new.looked ≡ length d.clauses.now =
    none_of two.result c.is_some-2.result _ c.is_some-2.ensures (λ e. let f = c.if-is_some-2.false in cc)
    two.ensures.all in
    let p = returns-clause-propagates c in
    settled c.propagate_from.new.trail d.clauses.now c.propagate_from.new.head two.new.looked c.propagate_from.result
    p.valid c.propagate_from.ensures.all all (returns-clause-guarded c)

pub returns-clause-last : goal.returns-clause-last
returns-clause-last c = λ before e u is i.
    let cs = c.args.database.now.clauses.now in
    let one = c.look_at_last-conflict in
    let two = c.look_at_new-conflict in
    grown_from cs c.args.level c.args.trail.now.steps one.new.trail.steps c.propagate_from.new.trail.steps _
    (one.ensures.last before e u is i)
    (grows_on cs c.args.level one.new.trail.steps two.new.trail.steps c.propagate_from.new.trail.steps
    two.ensures.propagates.grows c.propagate_from.ensures.propagates.grows)

use Rattle.std.proofs.Common.{◌≡◌, ◌∙◌, ℕ, List, sym, subst, ap, length, take}
use Rattle.gh_sat.specs.declared.trail.Step.{Step}
use Rattle.gh_sat.specs.Trail.{SearchState}
use Rattle.gh_sat.specs.Whole.{GivesLast}
use Rattle.gh_sat.proofs.TheoryLemmas.{beside_grow, beside_told, beside_answer, same_trail, calm_answer, present_before}
use Rattle.gh_sat.proofs.TheoryLemmas.{taken_back, told_back}
use Rattle.gh_sat.proofs.search.Search.propagate.Goals as goal

pub invariant_of-self : goal.invariant_of-self
invariant_of-self g c =
    beside_grow g.T.Theory.valid (g.T.Theory.asserted c.self.inside.theory) (g.T.Theory.sizes c.self.inside.theory)
    c.self.inside.search c.propagate-conflict.new.self c.steps-before.ensures.sound c.self.invariant
    c.propagate-conflict.ensures.moves

pub returns-then-is_some-clause-last : goal.returns-then-is_some-clause-last
returns-then-is_some-clause-last g c =
    subst (λ (t : SearchState). GivesLast t c.propagate-conflict.new.self.trail) c.self.view_is
    c.propagate-conflict.ensures.last

pub refute-requires-clause-consistent : goal.refute-requires-clause-consistent
refute-requires-clause-consistent g c =
    (beside_grow g.T.Theory.valid (g.T.Theory.asserted c.self.inside.theory) (g.T.Theory.sizes c.self.inside.theory)
    c.self.inside.search c.propagate-conflict.new.self c.steps-before.ensures.sound c.self.invariant
    c.propagate-conflict.ensures.moves).2

pub invariant_of-self-in-Ok : goal.invariant_of-self-in-Ok
invariant_of-self-in-Ok g c =
    let mid = c.propagate-conflict.new.self in
    let a = g.T.Theory.asserted c.self.inside.theory in
    let b = g.T.Theory.asserted c.tell.new.theory in
    let z = g.T.Theory.sizes c.self.inside.theory in
    let w = g.T.Theory.sizes c.tell.new.theory in
    let grown = beside_grow g.T.Theory.valid a z c.self.inside.search mid c.steps-before.ensures.sound c.self.invariant
    c.propagate-conflict.ensures.moves in
    let told = beside_told g.T.Theory.valid a b z w mid grown c.tell.ensures.told c.tell.ensures.sizes in
    beside_answer g.T.Theory.valid b w mid c.refute.new.search c.in-Ok.answer told c.in-Ok.ensures.added
    c.in-Ok.ensures.same

pub retract-requires-clause-present : goal.retract-requires-clause-present
retract-requires-clause-present g c =
    present_before c.self.inside.search c.propagate-conflict.new.self c.refute.new.search c.steps-before.result.now
    c.steps-before.ensures.sound c.propagate-conflict.ensures.moves c.in-Err.ensures.err c.steps-before.ensures.steps

pub invariant_of-self-in-Err : goal.invariant_of-self-in-Err
invariant_of-self-in-Err g c =
    let s = c.self.inside.search in
    let mid = c.propagate-conflict.new.self in
    let a = g.T.Theory.asserted c.self.inside.theory in
    let b = g.T.Theory.asserted c.tell.new.theory in
    let z = g.T.Theory.sizes c.self.inside.theory in
    let w = g.T.Theory.sizes c.tell.new.theory in
    let long : length c.steps-before.result.now ≡ length s.trail = ap length c.steps-before.ensures.steps in
    let place : ℕ = length c.steps-before.result.now in
    let back = taken_back s mid c.retract.new.self (length c.steps-before.result.now) c.propagate-conflict.ensures.moves
    long
    (c.retract.ensures ∙ ap (λ (t : SearchState). record t { trail = take (length c.steps-before.result.now) t.trail })
    c.in-Err.ensures.err) in
    told_back g.T.Theory.valid a (g.T.Theory.asserted c.undo_to.new.self) b z (g.T.Theory.sizes c.undo_to.new.self) w s
    mid c.retract.new.self c.self.invariant c.propagate-conflict.ensures.moves back
    c.tell.ensures.told c.tell.ensures.sizes (c.undo_to.ensures.asserted ∙ ap (λ (n : ℕ). take n b) long)
    c.undo_to.ensures.sizes

pub returns-in-Ok-clause-last : goal.returns-in-Ok-clause-last
returns-in-Ok-clause-last g c =
    let mid = c.propagate-conflict.new.self in
    let same = same_trail g.T.Theory.valid mid c.refute.new.search c.in-Ok.answer c.in-Ok.ensures.added
    c.in-Ok.ensures.same in
    subst (λ (t : List Step). GivesLast c.args.self.now t) (sym same)
    (subst (λ (t : SearchState). GivesLast t mid.trail) c.self.view_is c.propagate-conflict.ensures.last)

pub returns-in-Ok-clause-consistent : goal.returns-in-Ok-clause-consistent
returns-in-Ok-clause-consistent g c =
    calm_answer g.T.Theory.valid c.propagate-conflict.new.self c.refute.new.search c.in-Ok.answer c.in-Ok.ensures.none
    c.in-Ok.ensures.same

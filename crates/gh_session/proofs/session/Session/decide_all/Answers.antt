use Rattle.std.proofs.Common.{◌≡◌, ◌+◌, length, Some, take, cond, sym, subst, arith, ◌∙◌, ap}
use Rattle.gh_ast.specs.Plain.{program_of}
use Rattle.gh_path.specs.Answers.{IsNumbered}
use Rattle.gh_path.specs.Conditions.{conditions}
use Rattle.gh_path.specs.Walks.{IsWalkBefore}
use Rattle.gh_path.proofs.GivenLemmas.{lent_one, lent_on, lent_none}
use Rattle.gh_trace.specs.Kept.{drawn_of, HasNoCounterexample}
use Rattle.gh_trace.specs.Replay.{IsDrawnCounterexample}
use Rattle.gh_session.specs.Decided.{Grows, AreDecided}
use Rattle.gh_session.specs.Places.{knowledge}
use Rattle.gh_trace.proofs.FirstRefuted.{is_one, next_refuted}
use Rattle.gh_session.proofs.Growing.{at_most_one, none_decided, grown_one, decided_more}
use Rattle.gh_path.specs.Kept.{condition_of}
use Rattle.gh_session.proofs.session.Session.decide_all.Goals as goal

pub loop-place-init : goal.loop-place-init
loop-place-init g c = record {
  before = subst (λ Q. IsWalkBefore Q c.walk-walk.result (conditions Q)) c.requires.same c.walk-walk.ensures;
  decided = none_decided (program_of c.args.typed.now) (knowledge c.args.self.now);
  few = omega arith;
  calls = omega arith;
  rises = omega arith;
}

pub unreachable-requires : goal.unreachable-requires
unreachable-requires g c =
    let P = program_of c.args.typed.now in
    let count : c.count-place-end.result ≡ length (conditions P) =
    c.count-place-end.ensures ∙ ap (λ Q. length (conditions Q)) c.requires.same in
    lent_none P c.loop-place.walk c.advance.new.self c.loop-place.place c.advance.result c.in_ok-more.more
    c.in_ok-more.was c.if-not-more.true c.loop-place.invariant.before
    (omega (arith, count, c.loop-place-test.true)) c.advance.ensures.next

pub learn-requires-clause-one : goal.learn-requires-clause-one
learn-requires-clause-one g c =
    let P = program_of c.args.typed.now in
    let found : IsNumbered P (c.loop-place.place + 1) (Some c.condition.result.now) =
    lent_one P c.loop-place.walk c.advance.new.self c.loop-place.place c.advance.result c.in_ok-more.more
    c.condition.result.now c.in_ok-more.was c.if-not-more.false c.condition.ensures
    c.loop-place.invariant.before c.advance.ensures.next in
    is_one P c.loop-place.place c.condition.result.now found

pub returns-in-Some-clause-outcome : goal.returns-in-Some-clause-outcome
returns-in-Some-clause-outcome g c =
    let P = program_of c.args.typed.now in
    let found : IsNumbered P (c.loop-place.place + 1) (Some c.condition.result.now) =
    lent_one P c.loop-place.walk c.advance.new.self c.loop-place.place c.advance.result c.in_ok-more.more
    c.condition.result.now c.in_ok-more.was c.if-not-more.false c.condition.ensures
    c.loop-place.invariant.before c.advance.ensures.next in
    let against : IsDrawnCounterexample P (condition_of c.condition.result.now) (drawn_of c.in-Some.trace) =
    rw c.in-Some.is at c.in_ok-answer.ensures.some in
    next_refuted P c.loop-place.place c.condition.result.now c.in-Some.trace found against
    c.loop-place.invariant.decided.valid

pub returns-in-Some-clause-decided : goal.returns-in-Some-clause-decided
returns-in-Some-clause-decided g c =
    let P = program_of c.args.typed.now in
    let found : IsNumbered P (c.loop-place.place + 1) (Some c.condition.result.now) =
    lent_one P c.loop-place.walk c.advance.new.self c.loop-place.place c.advance.result c.in_ok-more.more
    c.condition.result.now c.in_ok-more.was c.if-not-more.false c.condition.ensures
    c.loop-place.invariant.before c.advance.ensures.next in
    let grows =
    grown_one P c.loop-place.place c.condition.result.now c.in_ok-answer.field-0.answer
    c.in_ok-answer.field-0.is_new (knowledge c.args.self.now) (knowledge c.loop-place.self)
    (knowledge c.learn.new.self) c.loop-place.decided found
    c.in_ok-answer.ensures.learns c.loop-place.invariant.decided in
    let more : c.one_if-decided.result ≡ cond c.in_ok-answer.field-0.is_new 1 0 = c.one_if-decided.ensures in
    subst (λ m. Grows P (take (c.loop-place.place + 1) (conditions P)) (knowledge c.args.self.now)
    (c.loop-place.decided + m) (knowledge c.learn.new.self)) (sym more) grows

pub loop-place-preserved : goal.loop-place-preserved
loop-place-preserved g c =
    let P = program_of c.args.typed.now in
    let found : IsNumbered P (c.loop-place.place + 1) (Some c.condition.result.now) =
    lent_one P c.loop-place.walk c.advance.new.self c.loop-place.place c.advance.result c.in_ok-more.more
    c.condition.result.now c.in_ok-more.was c.if-not-more.false c.condition.ensures
    c.loop-place.invariant.before c.advance.ensures.next in
    let passes : HasNoCounterexample P c.condition.result.now = rw c.in_default.is at c.in_ok-answer.ensures.none in
    let decided =
    decided_more P c.loop-place.place c.condition.result.now c.in_ok-answer.field-0.answer
    c.in_ok-answer.field-0.is_new (knowledge c.args.self.now) (knowledge c.loop-place.self)
    (knowledge c.learn.new.self) c.loop-place.decided found
    c.in_ok-answer.ensures.learns passes c.loop-place.invariant.decided in
    let more : c.one_if-decided.result ≡ cond c.in_ok-answer.field-0.is_new 1 0 = c.one_if-decided.ensures in
    let one = at_most_one c.in_ok-answer.field-0.is_new in
    let before = c.loop-place.invariant in
    record {
      before =
          lent_on P c.loop-place.walk c.advance.new.self c.loop-place.place c.advance.result c.in_ok-more.more
          c.in_ok-more.was c.if-not-more.false c.loop-place.invariant.before c.advance.ensures.next;
      decided = subst (λ m. AreDecided P (c.loop-place.place + 1) (knowledge c.args.self.now) (c.loop-place.decided + m)
          (knowledge c.learn.new.self)) (sym more) decided;
      few = omega (arith, before.few, more, one);
      calls = omega (arith, before.calls, more, c.in_ok-answer.ensures.asked_once);
      rises = omega (arith, before.rises, c.in_ok-answer.ensures.never_falls);
    }

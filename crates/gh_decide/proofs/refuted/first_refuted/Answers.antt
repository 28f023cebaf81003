use Rattle.std.proofs.Common.{◌≡◌, ◌+◌, length, Some, subst, arith, ◌∙◌, ap}
use Rattle.gh_ast.specs.Plain.{program_of}
use Rattle.gh_path.specs.Answers.{IsNumbered}
use Rattle.gh_path.specs.Conditions.{conditions}
use Rattle.gh_path.specs.Walks.{IsWalkBefore}
use Rattle.gh_path.proofs.GivenLemmas.{lent_one, lent_on, lent_none}
use Rattle.gh_decide.specs.Verdicts.{IsVerdict}
use Rattle.gh_decide.specs.declared.decide.Verdict.TheVariants.{Refuted}
use Rattle.gh_trace.proofs.FirstRefuted.{is_one, next_refuted}
use Rattle.gh_decide.proofs.Decided.{none_valid, valid_more, all_valid}
use Rattle.gh_decide.proofs.refuted.first_refuted.Goals as goal

pub loop-place-init : goal.loop-place-init
loop-place-init c = record {
  before = subst (λ Q. IsWalkBefore Q c.walk-walk.result (conditions Q)) c.requires.same c.walk-walk.ensures;
  valid = none_valid (program_of c.args.typed.now);
}

pub unreachable-requires : goal.unreachable-requires
unreachable-requires c =
    let P = program_of c.args.typed.now in
    let count : c.count-place-end.result ≡ length (conditions P) =
    c.count-place-end.ensures ∙ ap (λ Q. length (conditions Q)) c.requires.same in
    lent_none P c.loop-place.walk c.advance.new.self c.loop-place.place c.advance.result c.in_ok-more.more
    c.in_ok-more.was c.if-not-more.true c.loop-place.invariant.before
    (omega (arith, count, c.loop-place-test.true)) c.advance.ensures.next

pub decide_with-requires-clause-one : goal.decide_with-requires-clause-one
decide_with-requires-clause-one c =
    let P = program_of c.args.typed.now in
    let found : IsNumbered P (c.loop-place.place + 1) (Some c.condition.result.now) =
    lent_one P c.loop-place.walk c.advance.new.self c.loop-place.place c.advance.result c.in_ok-more.more
    c.condition.result.now c.in_ok-more.was c.if-not-more.false c.condition.ensures
    c.loop-place.invariant.before c.advance.ensures.next in
    is_one P c.loop-place.place c.condition.result.now found

pub returns-in-Refuted-clause-first : goal.returns-in-Refuted-clause-first
returns-in-Refuted-clause-first c =
    let P = program_of c.args.typed.now in
    let found : IsNumbered P (c.loop-place.place + 1) (Some c.condition.result.now) =
    lent_one P c.loop-place.walk c.advance.new.self c.loop-place.place c.advance.result c.in_ok-more.more
    c.condition.result.now c.in_ok-more.was c.if-not-more.false c.condition.ensures
    c.loop-place.invariant.before c.advance.ensures.next in
    let told : IsVerdict P c.condition.result.now (Refuted c.in-Refuted.trace) =
    rw c.in-Refuted.is at c.in_ok-trace.ensures in
    next_refuted P c.loop-place.place c.condition.result.now c.in-Refuted.trace found told c.loop-place.invariant.valid

pub loop-place-preserved : goal.loop-place-preserved
loop-place-preserved c =
    let P = program_of c.args.typed.now in
    let found : IsNumbered P (c.loop-place.place + 1) (Some c.condition.result.now) =
    lent_one P c.loop-place.walk c.advance.new.self c.loop-place.place c.advance.result c.in_ok-more.more
    c.condition.result.now c.in_ok-more.was c.if-not-more.false c.condition.ensures
    c.loop-place.invariant.before c.advance.ensures.next in
    let shown = rw c.in-Valid.is at c.in_ok-trace.ensures in
    record {
      before =
          lent_on P c.loop-place.walk c.advance.new.self c.loop-place.place c.advance.result c.in_ok-more.more
          c.in_ok-more.was c.if-not-more.false c.loop-place.invariant.before c.advance.ensures.next;
      valid = valid_more P c.loop-place.place c.condition.result.now found shown.valid c.loop-place.invariant.valid;
    }

pub returns-clause-none : goal.returns-clause-none
returns-clause-none c =
    let P = program_of c.args.typed.now in
    let count : c.count-place-end.result ≡ length (conditions P) =
    c.count-place-end.ensures ∙ ap (λ Q. length (conditions Q)) c.requires.same in
    all_valid P c.loop-place.place c.count-place-end.result count c.loop-place-test.false c.loop-place.invariant.valid

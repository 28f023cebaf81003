use Rattle.std.proofs.Common.{◌≡◌, ◌+◌, List, length, Some, refl, sym, subst, arith, ◌∙◌, ap}
use Rattle.gh_ast.specs.Plain.{program_of}
use Rattle.gh_path.specs.Answers.{IsNumbered}
use Rattle.gh_path.specs.Conditions.{conditions}
use Rattle.gh_path.specs.Walks.{IsWalkBefore}
use Rattle.gh_path.proofs.GivenLemmas.{lent_one, lent_on, lent_none}
use Rattle.gh_log.specs.declared.lines.Section.{Section}
use Rattle.gh_decide.specs.Decided.{AreDecided}
use Rattle.gh_decide.specs.Verdicts.{IsVerdict}
use Rattle.gh_decide.specs.declared.decide.Verdict.TheVariants.{Valid, Refuted}
use Rattle.gh_trace.proofs.FirstRefuted.{is_one, next_refuted}
use Rattle.gh_decide.proofs.Decided.{none_decided, decided_more, all_decided}
use Rattle.gh_decide.proofs.outcome.decide_all.Goals as goal

pub loop-place-init : goal.loop-place-init
loop-place-init c = record {
  before = subst (λ Q. IsWalkBefore Q c.walk-walk.result (conditions Q)) c.requires.same c.walk-walk.ensures;
  decided =
      subst (λ (ss : List Section). AreDecided (program_of c.args.typed.now) 0 ss) (sym c.new-sections.ensures.items)
      (none_decided (program_of c.args.typed.now));
}

pub unreachable-requires : goal.unreachable-requires
unreachable-requires c =
    let P = program_of c.args.typed.now in
    let count : c.count-place-end.result ≡ length (conditions P) =
    c.count-place-end.ensures ∙ ap (λ Q. length (conditions Q)) c.requires.same in
    lent_none P c.loop-place.walk c.advance.new.self c.loop-place.place c.advance.result c.in_ok-more.more
    c.in_ok-more.was c.if-not-more.true c.loop-place.invariant.before
    (omega (arith, count, c.loop-place-test.true)) c.advance.ensures.next

pub decide_with-requires-clause-one : goal.decide_with-requires-clause-one
decide_with-requires-clause-one c =
    let P = program_of c.args.typed.now in
    let s = c.loop-place.walk in
    let t = c.advance.new.self in
    let found : IsNumbered P (c.loop-place.place + 1) (Some c.condition.result.now) =
    lent_one P s t c.loop-place.place c.advance.result c.in_ok-more.more c.condition.result.now c.in_ok-more.was
    c.if-not-more.false c.condition.ensures c.loop-place.invariant.before
    c.advance.ensures.next in
    is_one P c.loop-place.place c.condition.result.now found

pub returns-in-Refuted : goal.returns-in-Refuted
returns-in-Refuted c =
    let P = program_of c.args.typed.now in
    let s = c.loop-place.walk in
    let t = c.advance.new.self in
    let found : IsNumbered P (c.loop-place.place + 1) (Some c.condition.result.now) =
    lent_one P s t c.loop-place.place c.advance.result c.in_ok-more.more c.condition.result.now c.in_ok-more.was
    c.if-not-more.false c.condition.ensures c.loop-place.invariant.before
    c.advance.ensures.next in
    let told : IsVerdict P c.condition.result.now (Refuted c.in-Refuted.trace) =
    rw c.in-Refuted.is at c.in_ok-section.ensures in
    next_refuted P c.loop-place.place c.condition.result.now c.in-Refuted.trace found told
    c.loop-place.invariant.decided.valid

pub loop-place-preserved : goal.loop-place-preserved
loop-place-preserved c =
    let P = program_of c.args.typed.now in
    let s = c.loop-place.walk in
    let t = c.advance.new.self in
    let found : IsNumbered P (c.loop-place.place + 1) (Some c.condition.result.now) =
    lent_one P s t c.loop-place.place c.advance.result c.in_ok-more.more c.condition.result.now c.in_ok-more.was
    c.if-not-more.false c.condition.ensures c.loop-place.invariant.before
    c.advance.ensures.next in
    let told : IsVerdict P c.condition.result.now (Valid c.in-Valid.section) =
    rw c.in-Valid.is at c.in_ok-section.ensures in
    record {
      before =
          lent_on P s t c.loop-place.place c.advance.result c.in_ok-more.more c.in_ok-more.was c.if-not-more.false
          c.loop-place.invariant.before c.advance.ensures.next;
      decided =
          decided_more P c.loop-place.place c.condition.result.now c.in-Valid.section c.loop-place.sections.items
          c.push.new.self.items found told c.in_ok-push-in-Valid.ensures.items c.loop-place.invariant.decided;
    }

pub returns : goal.returns
returns c =
    let P = program_of c.args.typed.now in
    let count : c.count-place-end.result ≡ length (conditions P) =
    c.count-place-end.ensures ∙ ap (λ Q. length (conditions Q)) c.requires.same in
    all_decided P c.loop-place.place c.count-place-end.result (record { version = 2; sections = c.loop-place.sections })
    refl count c.loop-place-test.false (omega (arith, c.count-place-end.type_inv)) c.loop-place.invariant.decided

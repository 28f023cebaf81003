use Rattle.std.proofs.Common.{◌≡◌, ◌+◌, List, [], length, Some, ◌∙◌, ap, sym, subst, arith}
use Rattle.gh_ast.specs.Plain.{program_of}
use Rattle.gh_path.specs.Answers.{IsNumbered}
use Rattle.gh_path.specs.Conditions.{conditions}
use Rattle.gh_path.specs.Walks.{IsWalkBefore}
use Rattle.gh_path.proofs.GivenLemmas.{lent_one, lent_on, lent_none}
use Rattle.gh_trace.proofs.FirstRefuted.{is_one}
use Rattle.gh_lens.specs.Judgements.{AreJudged}
use Rattle.gh_lens.specs.declared.judged.Judged.{Judged}
use Rattle.gh_lens.proofs.Judging.{judged_next, judged_all}
use Rattle.gh_lens.proofs.judged.verdicts.Goals as goal

pub loop-place-init : goal.loop-place-init
loop-place-init g c = record {
  before = subst (λ Q. IsWalkBefore Q c.walk-walk.result (conditions Q)) c.requires.same c.walk-walk.ensures;
  judged =
      subst (λ (js : List Judged). AreJudged (program_of c.args.typed.now) 1 [] js) (sym c.new-all.ensures.items) tt;
}

pub unreachable-requires : goal.unreachable-requires
unreachable-requires g c =
    let P = program_of c.args.typed.now in
    let count : c.count-count.result ≡ length (conditions P) =
    c.count-count.ensures ∙ ap (λ Q. length (conditions Q)) c.requires.same in
    lent_none P c.loop-place.walk c.advance.new.self c.loop-place.place c.advance.result c.in_ok-more.more
    c.in_ok-more.was c.if-not-more.true c.loop-place.invariant.before
    (omega (arith, count, c.loop-place-test.true)) c.advance.ensures.next

pub judge-requires-clause-one : goal.judge-requires-clause-one
judge-requires-clause-one g c =
    let P = program_of c.args.typed.now in
    let found : IsNumbered P (c.loop-place.place + 1) (Some c.condition.result.now) =
    lent_one P c.loop-place.walk c.advance.new.self c.loop-place.place c.advance.result c.in_ok-more.more
    c.condition.result.now c.in_ok-more.was c.if-not-more.false c.condition.ensures
    c.loop-place.invariant.before c.advance.ensures.next in
    is_one P c.loop-place.place c.condition.result.now found

pub loop-place-preserved : goal.loop-place-preserved
loop-place-preserved g c =
    let P = program_of c.args.typed.now in
    let s = c.loop-place.walk in
    let t = c.advance.new.self in
    let found : IsNumbered P (c.loop-place.place + 1) (Some c.condition.result.now) =
    lent_one P s t c.loop-place.place c.advance.result c.in_ok-more.more c.condition.result.now c.in_ok-more.was
    c.if-not-more.false c.condition.ensures c.loop-place.invariant.before
    c.advance.ensures.next in
    record {
      before =
          lent_on P s t c.loop-place.place c.advance.result c.in_ok-more.more c.in_ok-more.was c.if-not-more.false
          c.loop-place.invariant.before c.advance.ensures.next;
      judged =
          judged_next P c.loop-place.place c.condition.result.now c.in_ok-judged.judged c.loop-place.all.items
          c.push.new.self.items found c.in_ok-judged.ensures c.in_ok-push.ensures.items c.loop-place.invariant.judged;
    }

pub returns : goal.returns
returns g c =
    let P = program_of c.args.typed.now in
    let count : c.count-count.result ≡ length (conditions P) =
    c.count-count.ensures ∙ ap (λ Q. length (conditions Q)) c.requires.same in
    judged_all P c.loop-place.place c.count-count.result c.loop-place.all.items count c.loop-place-test.false
    c.loop-place.invariant.judged

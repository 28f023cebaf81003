use Rattle.std.proofs.Common.{◌≡◌, ◌+◌, ◌<◌, ◌≤◌, sym, subst, length, map, drop, get_or, [], arith}
use Rattle.gh_ast.specs.Plain.{procedure_of, program_of}
use Rattle.gh_ast.proofs.Sites.{element_at}
use Rattle.gh_path.specs.Kept.{step_of, check_of}
use Rattle.gh_trace.specs.Kept.{state_of, drawn}
use Rattle.gh_trace.specs.Replay.{FailsAfter}
use Rattle.gh_trace.specs.Rest.{IsFailureAfter}
use Rattle.gh_trace.proofs.Following.{CarriesBack, follows_first, kept_more, kept_misses, kept_missing, more_fails}
use Rattle.gh_trace.proofs.Following.{check_fails, check_refutes, past, some_state, no_state}
use Rattle.gh_trace.proofs.replay.walk.Goals as goal

pub loop-i-init : goal.loop-i-init
loop-i-init c = record {
  follows =
      follows_first (program_of c.args.setting.typed.now) (procedure_of c.args.setting.procedure.now)
      (map step_of c.args.condition.now.steps.items) (state_of c.args.first.now) (map drawn c.args.others.now);
  over = c.requires.over;
}

pub returns-in_default-clause-failed : goal.returns-in_default-clause-failed
returns-in_default-clause-failed c =
    let P = program_of c.args.setting.typed.now in
    let proc = procedure_of c.args.setting.procedure.now in
    let rs = c.args.condition.now.steps.items in
    let x = state_of c.args.first.now in
    let others = c.args.others.now in
    let i = c.loop-i.i in
    let r = c.step-item.result in
    subst (IsFailureAfter P proc c.args.condition.now x (map drawn others)) (sym c.failure.ensures)
    (kept_missing P proc rs x (state_of c.loop-i.before.now) others i r
    (subst (λ zs. i < length zs) c.deref-step-items.ensures.value c.loop-i-test.true)
    (subst (λ zs. r ≡ get_or zs i r) c.deref-step-items.ensures.value c.step-item.is)
    c.in_default.ensures.lookup.3 c.loop-i.invariant.follows (check_of c.args.condition.now.check))

pub returns-then-not-branch-clause-failed : goal.returns-then-not-branch-clause-failed
returns-then-not-branch-clause-failed c =
    let P = program_of c.args.setting.typed.now in
    let proc = procedure_of c.args.setting.procedure.now in
    let rs = c.args.condition.now.steps.items in
    let x = state_of c.args.first.now in
    let others = c.args.others.now in
    let i = c.loop-i.i in
    let r = c.step-item.result in
    subst (IsFailureAfter P proc c.args.condition.now x (map drawn others)) (sym c.failure-then-not-branch.ensures)
    (kept_misses P proc rs x (state_of c.loop-i.before.now) others i r c.in-Some.after.now
    (subst (λ zs. i < length zs) c.deref-step-items.ensures.value c.loop-i-test.true)
    (subst (λ zs. r ≡ get_or zs i r) c.deref-step-items.ensures.value c.step-item.is) c.in-Some.ensures.lookup.3.0
    c.in-Some.ensures.lookup.1
    (λ leads. (let t = c.in_ok-is_next.ensures.next.1 leads in absurd cc)) c.loop-i.invariant.follows
    (check_of c.args.condition.now.check))

pub loop-i-preserved : goal.loop-i-preserved
loop-i-preserved c =
    let P = program_of c.args.setting.typed.now in
    let proc = procedure_of c.args.setting.procedure.now in
    let rs = c.args.condition.now.steps.items in
    let x = state_of c.args.first.now in
    let others = c.args.others.now in
    let i = c.loop-i.i in
    let r = c.step-item.result in
    record {
      follows =
          kept_more P proc rs x (state_of c.loop-i.before.now) others i r c.in-Some.after.now
          (subst (λ zs. i < length zs) c.deref-step-items.ensures.value c.loop-i-test.true)
          (subst (λ zs. r ≡ get_or zs i r) c.deref-step-items.ensures.value c.step-item.is) c.in-Some.ensures.lookup.3.0
          c.in-Some.ensures.lookup.1 (c.in_ok-is_next.ensures.next.0 c.if-not-branch.false)
          c.loop-i.invariant.follows;
      over = c.in_ok-is_next.ensures.over c.if-not-branch.false;
    }

pub returns-then-others-count-clause-failed : goal.returns-then-others-count-clause-failed
returns-then-others-count-clause-failed c =
    let P = program_of c.args.setting.typed.now in
    let proc = procedure_of c.args.setting.procedure.now in
    let rs = c.args.condition.now.steps.items in
    let x = state_of c.args.first.now in
    let others = c.args.others.now in
    let i = c.loop-i.i in
    let k = check_of c.args.condition.now.check in
    let end =
    past P proc rs x others (state_of c.loop-i.before.now) i c.len-count.result _ _ c.deref-step-items.ensures.value
    c.deref-step-items.ensures.len c.loop-i-test.false c.loop-i.auto.i-end c.len-count.ensures
    c.loop-i.invariant.follows in
    let more : i < length others = omega (arith, end.count, c.if-others-count.true) in
    let y = element_at others i more in
    let fails =
    more_fails P proc (map step_of rs) x (map drawn others) (state_of c.loop-i.before.now) (drawn y.0)
    (map drawn (drop (i + 1) others)) i
    (subst (λ z. CarriesBack P proc (map step_of rs) x (map drawn others) [] (state_of c.loop-i.before.now) z i)
    (some_state others i y.0 more (sym y.1)) end.follows) k in
    subst (IsFailureAfter P proc c.args.condition.now x (map drawn others)) (sym c.failure-then-others-count.ensures)
    (subst (λ n. FailsAfter P proc x (map step_of rs) k (map drawn others) (n + 1)) end.count fails)

pub returns-then-branch-clause-failed : goal.returns-then-branch-clause-failed
returns-then-branch-clause-failed c =
    let P = program_of c.args.setting.typed.now in
    let proc = procedure_of c.args.setting.procedure.now in
    let rs = c.args.condition.now.steps.items in
    let x = state_of c.args.first.now in
    let others = c.args.others.now in
    let i = c.loop-i.i in
    let k = check_of c.args.condition.now.check in
    let end =
    past P proc rs x others (state_of c.loop-i.before.now) i c.len-count.result _ _ c.deref-step-items.ensures.value
    c.deref-step-items.ensures.len c.loop-i-test.false c.loop-i.auto.i-end c.len-count.ensures
    c.loop-i.invariant.follows in
    let last : length others ≤ i = omega (arith, end.count, c.if-others-count.false) in
    let at_last = subst (λ z. CarriesBack P proc (map step_of rs) x (map drawn others) [] (state_of c.loop-i.before.now)
    z i) (no_state others i last) end.follows in
    subst (IsFailureAfter P proc c.args.condition.now x (map drawn others)) (sym c.failure-then-branch.ensures)
    (subst (λ n. FailsAfter P proc x (map step_of rs) k (map drawn others) (n + 1)) end.count
    (check_fails P proc (map step_of rs) x (map drawn others) (state_of c.loop-i.before.now) i at_last k
    ((c.in_ok-passes.ensures c.args.condition.now.check.span).0 c.if-branch.true)))

pub returns-clause-refuted : goal.returns-clause-refuted
returns-clause-refuted c =
    let P = program_of c.args.setting.typed.now in
    let proc = procedure_of c.args.setting.procedure.now in
    let rs = c.args.condition.now.steps.items in
    let x = state_of c.args.first.now in
    let others = c.args.others.now in
    let i = c.loop-i.i in
    let end =
    past P proc rs x others (state_of c.loop-i.before.now) i c.len-count.result _ _ c.deref-step-items.ensures.value
    c.deref-step-items.ensures.len c.loop-i-test.false c.loop-i.auto.i-end c.len-count.ensures
    c.loop-i.invariant.follows in
    let last : length others ≤ i = omega (arith, end.count, c.if-others-count.false) in
    let at_last = subst (λ z. CarriesBack P proc (map step_of rs) x (map drawn others) [] (state_of c.loop-i.before.now)
    z i) (no_state others i last) end.follows in
    check_refutes P proc (map step_of rs) x (map drawn others) (state_of c.loop-i.before.now) i at_last
    (check_of c.args.condition.now.check)
    (λ passes. (let t = (c.in_ok-passes.ensures c.args.condition.now.check.span).1 passes in absurd cc))

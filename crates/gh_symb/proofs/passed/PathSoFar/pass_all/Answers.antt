use Rattle.std.proofs.Common.{◌+◌, ap, subst, arith, drop, length, map}
use Rattle.std.proofs.Math.ListN.{drop_of_length-le}
use Rattle.gh_path.specs.Kept.{step_of, condition_of}
use Rattle.gh_symb.specs.Contexts.{program_in, procedure_in}
use Rattle.gh_symb.specs.Passing.{HasPassed}
use Rattle.gh_symb.specs.Walkers.{terms_at}
use Rattle.gh_symb.proofs.CountLemmas.{many, has_next}
use Rattle.gh_symb.proofs.FollowLemmas.{next_passed}
use Rattle.gh_symb.proofs.passed.PathSoFar.pass_all.Goals as goal

pub loop-step-init : goal.loop-step-init
loop-step-init c = record {
  few = omega (arith, c.requires.first);
  left = rw c.as_slice-step-items.ensures.value c.requires.begun;
}

pub pass-requires-clause-step : goal.pass-requires-clause-step
pass-requires-clause-step c =
    has_next c.requires.of c.as_slice-step-items.result.now c.loop-step.step-index c.as_slice-step-items.ensures.value
    c.loop-step-test.true c.step-item.is

pub pass-requires-clause-room : goal.pass-requires-clause-room
pass-requires-clause-room c =
    omega (
      arith,
      c.loop-step.invariant.few,
      c.loop-step-test.true,
      ap length c.as_slice-step-items.ensures.value,
      c.args.condition.now.steps.ok,
      c.args.condition.now.steps.small,
    )

pub loop-step-preserved : goal.loop-step-preserved
loop-step-preserved c = record {
  few = omega (arith, c.loop-step.invariant.few, c.in_ok-pass.ensures.next);
  left = next_passed c.args.context c.as_slice-step-items.result.now c.loop-step.step-index c.step-item.result
      (condition_of c.args.condition.now) c.loop-step.walker c.pass.new.walker
      c.loop-step.self c.pass.new.self c.loop-step-test.true c.step-item.is c.loop-step.invariant.left
      c.in_ok-pass.ensures.passed;
}

pub returns-then-count-gt-MOST_TERMS-clause-passed : goal.returns-then-count-gt-MOST_TERMS-clause-passed
returns-then-count-gt-MOST_TERMS-clause-passed c =
    let rs = c.as_slice-step-items.result.now in
    let i = c.loop-step.step-index in
    let d = condition_of c.args.condition.now in
    let later = next_passed c.args.context rs i c.step-item.result d c.loop-step.walker c.pass.new.walker
    c.loop-step.self c.pass.new.self c.loop-step-test.true c.step-item.is c.loop-step.invariant.left
    c.in_ok-pass.ensures.passed in
    many (program_in c.args.context) (procedure_in c.args.context) (map step_of (drop (i + 1) rs)) d
    (terms_at c.pass.new.walker) later.rest.lead (omega (arith, c.if-count-gt-MOST_TERMS.true, c.count.ensures))

pub returns-then-count-gt-MOST_TERMS-clause-version : goal.returns-then-count-gt-MOST_TERMS-clause-version
returns-then-count-gt-MOST_TERMS-clause-version c =
    omega (
      arith,
      c.loop-step.invariant.few,
      c.in_ok-pass.ensures.next,
      c.loop-step-test.true,
      ap length c.as_slice-step-items.ensures.value,
    )

pub returns-clause-passed : goal.returns-clause-passed
returns-clause-passed c =
    subst (λ xs. HasPassed c.args.context (map step_of xs) (condition_of c.args.condition.now) c.loop-step.walker
    c.loop-step.self)
    (drop_of_length-le c.as_slice-step-items.result.now c.loop-step-test.false) c.loop-step.invariant.left

pub returns-clause-version : goal.returns-clause-version
returns-clause-version c =
    omega (
      arith,
      c.loop-step.invariant.few,
      c.loop-step.auto.step-index-end,
      ap length c.as_slice-step-items.ensures.value,
    )

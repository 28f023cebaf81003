use Rattle.std.proofs.Common.{◌≡◌, ◌-◌, drop, ap, subst, arith}
use Rattle.gh_path.specs.Walks.{IsWalkBefore}
use Rattle.gh_path.proofs.LeftLemmas.{pass_one}
use Rattle.gh_path.proofs.walk.Walk.pass_to.Goals as goal

pub loop-self-init : goal.loop-self-init
loop-self-init c = record {
  low = omega arith;
  near = omega arith;
  passed = λ P cs before.
      let n = c.args.self.now.given in
      let none : 0 ≡ n - n = omega arith in
      subst (IsWalkBefore P c.args.self.now) (ap (λ k. drop k cs) none) before;
}

pub loop-self-preserved : goal.loop-self-preserved
loop-self-preserved c =
    let s = c.loop-self.self in
    let t = c.reach.new.self in
    record {
      low = omega (arith, c.loop-self.invariant.low, c.in_ok-reach.ensures.given);
      near = omega (arith, c.in_ok-reach.ensures.given, c.loop-self-test.true);
      passed = λ P cs before.
          pass_one P c.args.self.now s t cs c.in_ok-reach.field-0 c.loop-self.invariant.low
          (c.loop-self.invariant.passed P cs before) c.in_ok-reach.ensures.come c.in_ok-reach.ensures.given
          c.in_ok-reach.ensures.end;
    }

pub returns : goal.returns
returns c = λ P cs before.
    let s = c.args.self.now in
    let t = c.loop-self.self in
    let place : t.given - s.given ≡ c.args.place - s.given =
    omega (arith, c.loop-self.invariant.low, c.loop-self.invariant.near, c.loop-self-test.false) in
    subst (IsWalkBefore P t) (ap (λ k. drop k cs) place) (c.loop-self.invariant.passed P cs before)

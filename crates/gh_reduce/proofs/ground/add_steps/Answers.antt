use Rattle.std.proofs.Common.{◌≡◌, ◌<◌, ◌+◌, ℕ, List, map, drop, sym, ◌∙◌, ap, subst, arith}
use Rattle.gh_base.specs.Grounds.{Problem}
use Rattle.gh_symb.specs.Symbolic.{TermStep}
use Rattle.gh_symb.specs.Formulas.{step_formulas, steps_formulas, version_after}
use Rattle.gh_symb.specs.Encodings.{plain_kind}
use Rattle.gh_reduce.specs.Growth.{stated_in}
use Rattle.gh_symb.specs.Inside.{step_of, AreKinds, AreStepsInside}
use Rattle.gh_reduce.proofs.GrowthLemmas.{stated_first, same_terms, same_versions}
use Rattle.gh_reduce.proofs.WalkLemmas.{steps_from, step_version}
use Rattle.gh_reduce.proofs.ground.add_steps.Goals as goal

pub add_step-requires : goal.add_step-requires
add_step-requires c =
    let ss = c.args.steps.now in
    let i = c.loop-step.step-index in
    let s = c.loop-step.ground.sizes in
    let split = steps_from ss i c.step-item.result c.loop-step-test.true c.step-item.is in
    record {
      few = omega (arith, c.loop-step.invariant.versions, c.requires.few);
      ready =
          subst (λ (n : ℕ). AreKinds n (map plain_kind c.args.terms.now)) (sym c.loop-step.invariant.terms)
          c.requires.ready;
      inside = (subst (λ (xs : List TermStep). AreStepsInside s.terms s.versions c.loop-step.version xs) split
          c.loop-step.invariant.inside).0;
    }

pub loop-step-preserved : goal.loop-step-preserved
loop-step-preserved c =
    let ss = c.args.steps.now in
    let i = c.loop-step.step-index in
    let p = c.loop-step.ground in
    let q = c.add_step.new.ground in
    let ks = map plain_kind c.args.terms.now in
    let v = c.loop-step.version in
    let step = step_of c.step-item.result in
    let rest = map step_of (drop (i + 1) ss) in
    let split = steps_from ss i c.step-item.result c.loop-step-test.true c.step-item.is in
    let both =
    subst (λ (xs : List TermStep). AreStepsInside p.sizes.terms p.sizes.versions v xs) split
    c.loop-step.invariant.inside in
    let after : version_after v step ≡ v + c.versions_begun-version.result = c.versions_begun-version.ensures.after v in
    let fs = step_formulas ks v step in
    let moved = same_terms p q fs c.in_ok-add_step.ensures in
    let kept = same_versions p q fs c.in_ok-add_step.ensures in
    record {
      state =
          subst (λ (k : ℕ). stated_in q (steps_formulas ks k rest)
          ≡ stated_in c.args.ground.now (steps_formulas ks 0 (map step_of ss))) after
          (stated_first p q (stated_in c.args.ground.now (steps_formulas ks 0 (map step_of ss)))
          (steps_formulas ks v (map step_of (drop i ss))) fs (steps_formulas ks (version_after v step) rest)
          c.loop-step.invariant.state (ap (steps_formulas ks v) split) c.in_ok-add_step.ensures);
      terms = moved ∙ c.loop-step.invariant.terms;
      versions = kept ∙ c.loop-step.invariant.versions;
      version =
          subst (λ (k : ℕ). k < q.sizes.versions) after
          (subst (λ (n : ℕ). version_after v step < n) (sym kept)
          (step_version p.sizes.terms p.sizes.versions v step both.0 c.loop-step.invariant.version));
      inside =
          subst (λ (k : ℕ). AreStepsInside q.sizes.terms q.sizes.versions k rest) after
          (subst (λ (x : Problem). AreStepsInside x.sizes.terms x.sizes.versions (version_after v step) rest)
          (sym c.in_ok-add_step.ensures) both.1);
    }

pub overflow_add-version : goal.overflow_add-version
overflow_add-version c =
    let ss = c.args.steps.now in
    let i = c.loop-step.step-index in
    let p = c.loop-step.ground in
    let v = c.loop-step.version in
    let step = step_of c.step-item.result in
    let split = steps_from ss i c.step-item.result c.loop-step-test.true c.step-item.is in
    let both =
    subst (λ (xs : List TermStep). AreStepsInside p.sizes.terms p.sizes.versions v xs) split
    c.loop-step.invariant.inside in
    let after : version_after v step ≡ v + c.versions_begun-version.result = c.versions_begun-version.ensures.after v in
    let less = step_version p.sizes.terms p.sizes.versions v step both.0 c.loop-step.invariant.version in
    omega (arith, after, less, c.loop-step.invariant.versions, c.requires.few)

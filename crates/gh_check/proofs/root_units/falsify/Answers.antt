use Rattle.std.proofs.Common.{◌≡◌, ◌↔◌, ◌∙◌, IsTrue, false, map, refl, sym, ap, subst, arith, take_all}
use Rattle.std.specs.Prelude.{Contains}
use Rattle.gh_base.specs.Atoms.{opposite}
use Rattle.gh_sat.proofs.StatusLemmas.{nothing}
use Rattle.gh_check.specs.Truths.{TruthSet, IsConsistent}
use Rattle.gh_check.proofs.TruthLemmas.{all_more, all_done, falsified_more}
use Rattle.gh_check.proofs.RootUnitsLemmas.{met_at, not_first, not_second, never_met, none_consistent}
use Rattle.gh_check.proofs.root_units.falsify.Goals as goal

pub returns-then-is_false-clause-clash : goal.returns-then-is_false-clause-clash
returns-then-is_false-clause-clash c = (
  (λ t. met_at c.args.fixed.now.lits c.args.lits.now c.loop-lit.lit-index nothing _ c.negated-negated.result
      c.loop-lit.above.lits c.loop-lit-test.true refl c.loop-lit.invariant.set c.negated-negated.ensures
      (subst (λ (s : TruthSet). Contains s.lits (opposite c.negated-negated.result)) c.both.ensures
      (c.if-is_false.ensures.0 refl))),
  λ h. refl,
)

pub loop-lit-init : goal.loop-lit-init
loop-lit-init c = record {
  sizes = refl;
  set = c.requires.none;
  consistent = subst IsConsistent (sym c.requires.none) none_consistent;
  apart = λ k d lt. absurd (omega arith);
}

pub loop-lit-preserved : goal.loop-lit-preserved
loop-lit-preserved c =
    let added = c.in_ok-add.ensures.added in
    let exact =
    subst (λ (s : TruthSet). IsTrue false ↔ Contains s.lits (opposite c.negated-negated.result)) c.both.ensures
    c.if-is_false.ensures in
    record {
      sizes = ap (λ (t : TruthSet). t.sizes) added ∙ c.loop-lit.invariant.sizes;
      set = falsified_more c.args.lits.now c.loop-lit.lit-index nothing _ c.negated-negated.result c.loop-lit.above.lits
          _ c.loop-lit-test.true refl c.loop-lit.invariant.set c.negated-negated.ensures
          (ap (λ (t : TruthSet). t.lits) added);
      consistent = c.in_ok-add.ensures.consistent;
      apart =
          all_more (λ m. Contains c.args.fixed.now.lits m → ⊥) c.args.lits.now c.loop-lit.lit-index nothing
          c.loop-lit-test.true c.loop-lit.invariant.apart
          (not_first c.args.fixed.now.lits c.loop-lit.above.lits _ c.negated-negated.result false
          c.negated-negated.ensures exact (λ t. absurd (cc)));
    }

pub returns-clause-clash : goal.returns-clause-clash
returns-clause-clash c =
    let whole : c.loop-lit.above.lits ≡ map opposite c.args.lits.now =
    c.loop-lit.invariant.set ∙ ap (map opposite) (take_all c.loop-lit.lit-index c.args.lits.now (omega arith)) in
    let apart =
    all_done (λ m. Contains c.args.fixed.now.lits m → ⊥) c.args.lits.now c.loop-lit.lit-index (omega arith)
    c.loop-lit.invariant.apart in (
      (λ t. absurd (cc)),
      λ met. absurd
          (never_met c.args.fixed.now.lits c.loop-lit.above.lits c.args.lits.now whole c.loop-lit.invariant.consistent
          apart met),
    )

pub returns-clause-set : goal.returns-clause-set
returns-clause-set c =
    let whole : c.loop-lit.above.lits ≡ map opposite c.args.lits.now =
    c.loop-lit.invariant.set ∙ ap (map opposite) (take_all c.loop-lit.lit-index c.args.lits.now (omega arith)) in
    λ fails. whole

pub add-requires-clause-not_false : goal.add-requires-clause-not_false
add-requires-clause-not_false c =
    let exact =
    subst (λ (s : TruthSet). IsTrue false ↔ Contains s.lits (opposite c.negated-negated.result)) c.both.ensures
    c.if-is_false.ensures in
    not_second c.args.fixed.now.lits c.loop-lit.above.lits (opposite c.negated-negated.result) false exact
    (λ t. absurd (cc))

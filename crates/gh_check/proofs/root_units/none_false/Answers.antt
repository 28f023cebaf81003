use Rattle.std.proofs.Common.{refl, arith}
use Rattle.std.specs.Prelude.{Contains}
use Rattle.gh_base.specs.Atoms.{opposite}
use Rattle.gh_sat.proofs.StatusLemmas.{nothing}
use Rattle.gh_check.proofs.TruthLemmas.{all_more, all_done}
use Rattle.gh_check.proofs.root_units.none_false.Goals as goal

pub loop-lit-preserved : goal.loop-lit-preserved
loop-lit-preserved c =
    all_more (λ m. Contains c.args.told.now.lits (opposite m) → ⊥) c.args.lits.now c.loop-lit.lit-index nothing
    c.loop-lit-test.true c.loop-lit.invariant
    (λ w. let f = c.if-is_false.ensures.1 w in absurd (cc))

pub returns-then-is_false : goal.returns-then-is_false
returns-then-is_false c = (
  (λ t. absurd (cc)),
  (λ h. absurd (h c.loop-lit.lit-index nothing c.loop-lit-test.true (c.if-is_false.ensures.0 refl))),
)

pub returns : goal.returns
returns c = (
  (λ t. all_done (λ m. Contains c.args.told.now.lits (opposite m) → ⊥) c.args.lits.now c.loop-lit.lit-index
      (omega arith) c.loop-lit.invariant),
  λ h. refl,
)

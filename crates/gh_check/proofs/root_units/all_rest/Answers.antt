use Rattle.std.proofs.Common.{refl, subst, arith, take_all}
use Rattle.gh_check.specs.RootUnits.{AreAtRest}
use Rattle.gh_check.proofs.RestLemmas.{rest_first, rest_more, rest_at}
use Rattle.gh_check.proofs.root_units.all_rest.Goals as goal

pub loop-position-init : goal.loop-position-init
loop-position-init c = rest_first c.args.told.now.lits c.args.kept.now.clauses

pub loop-position-preserved : goal.loop-position-preserved
loop-position-preserved c =
    rest_more c.args.told.now.lits c.args.kept.now.clauses c.loop-position.position (omega arith)
    c.loop-position.invariant (c.if-not-rests_at.ensures.0 refl)

pub returns-then-not-rests_at : goal.returns-then-not-rests_at
returns-then-not-rests_at c = (
  (λ t. absurd (cc)),
  (λ h. let f = c.if-not-rests_at.ensures.1
      (rest_at c.args.told.now.lits c.args.kept.now.clauses c.loop-position.position h) in absurd (cc)),
)

pub returns : goal.returns
returns c = (
  (λ t. subst (AreAtRest c.args.told.now.lits)
      (take_all c.loop-position.position c.args.kept.now.clauses (omega arith)) c.loop-position.invariant),
  λ h. refl,
)

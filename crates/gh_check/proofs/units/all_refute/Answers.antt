use Rattle.std.proofs.Common.{refl, arith}
use Rattle.gh_sat.proofs.StatusLemmas.{nothing}
use Rattle.gh_check.proofs.AssumingLemmas.{goes_first, first_refutes, goes_more, goes_refutes, goes_on, goes_range}
use Rattle.gh_check.proofs.units.all_refute.Goals as goal

pub returns-then-is_some-clause-exact : goal.returns-then-is_some-clause-exact
returns-then-is_some-clause-exact c = (
  λ holds. first_refutes c.args.search.now c.propagate.new.self c.args.lits.now c.propagate.result c.is_some.result
      c.requires.level c.propagate.ensures.moves c.propagate.ensures.conflict c.propagate.ensures.sound
      c.is_some.ensures cc,
  λ follows. refl,
)

pub loop-lit-init : goal.loop-lit-init
loop-lit-init c =
    goes_first c.args.search.now c.propagate.new.self c.args.lits.now c.propagate.result c.is_some.result
    c.requires.level c.propagate.ensures.moves c.propagate.ensures.settled c.propagate.ensures.sound
    c.is_some.ensures (λ holds. cc)

pub refutes-requires-clause-range : goal.refutes-requires-clause-range
refutes-requires-clause-range c =
    goes_range c.args.search.now c.loop-lit.search c.args.lits.now c.loop-lit.lit-index nothing _ (omega arith) refl
    c.loop-lit.invariant c.requires.range

pub returns-then-refutes-clause-exact : goal.returns-then-refutes-clause-exact
returns-then-refutes-clause-exact c = (
  λ holds. goes_refutes c.args.search.now c.loop-lit.search c.args.lits.now c.loop-lit.lit-index nothing _ (omega arith)
      refl c.loop-lit.invariant (c.refutes.ensures.refuting (cc)),
  λ follows. refl,
)

pub loop-lit-preserved : goal.loop-lit-preserved
loop-lit-preserved c =
    goes_more c.args.search.now c.loop-lit.search c.refutes.new.search c.args.lits.now c.loop-lit.lit-index nothing _
    (omega arith) refl c.loop-lit.invariant c.refutes.ensures.sizes c.refutes.ensures.clauses
    (c.refutes.ensures.assumed (λ holds. cc))

pub returns-clause-exact : goal.returns-clause-exact
returns-clause-exact c = (
  λ holds. cc,
  λ follows. absurd (goes_on c.args.search.now c.loop-lit.search c.args.lits.now c.loop-lit.lit-index (omega arith)
      c.loop-lit.invariant follows),
)

use Rattle.std.proofs.Common.{refl, arith}
use Rattle.std.specs.Prelude.{Contains}
use Rattle.gh_base.specs.Atoms.{opposite}
use Rattle.gh_sat.proofs.StatusLemmas.{nothing}
use Rattle.gh_check.proofs.TruthLemmas.{all_more, all_done}
use Rattle.gh_check.proofs.hints.Layers.find_open.Goals as goal

pub loop-lit-preserved : goal.loop-lit-preserved
loop-lit-preserved c =
    all_more (λ m. Contains c.args.self.now.lits (opposite m)) c.args.clause.now c.loop-lit.lit-index nothing
    c.loop-lit-test.true c.loop-lit.invariant (c.if-not-is_false.ensures.0 refl)

pub returns : goal.returns
returns c =
    all_done (λ m. Contains c.args.self.now.lits (opposite m)) c.args.clause.now c.loop-lit.lit-index (omega arith)
    c.loop-lit.invariant

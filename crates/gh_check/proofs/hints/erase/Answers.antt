use Rattle.std.proofs.Common.{refl}
use Rattle.gh_sat.proofs.StatusLemmas.{nothing}
use Rattle.gh_check.proofs.TruthLemmas.{cleared_first, cleared_more}
use Rattle.gh_check.proofs.hints.erase.Goals as goal

pub loop-lit-init : goal.loop-lit-init
loop-lit-init c = cleared_first c.args.table.now c.args.lits.now c.requires

pub loop-lit-preserved : goal.loop-lit-preserved
loop-lit-preserved c =
    cleared_more c.args.table.now c.loop-lit.table c.clear.new.self c.args.lits.now c.loop-lit.lit-index nothing _
    c.loop-lit-test.true refl c.requires.range c.loop-lit.invariant c.clear.ensures.meaning

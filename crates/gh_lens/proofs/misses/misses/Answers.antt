use Rattle.std.proofs.Common.{◌∙◌, ◌++◌, ap}
use Rattle.gh_assert.specs.Stores.{store_of}
use Rattle.gh_lens.proofs.Missing.{misses_next}
use Rattle.gh_lens.proofs.misses.misses.Goals as goal

pub loop-alternative-preserved : goal.loop-alternative-preserved
loop-alternative-preserved c =
    misses_next c.args.alternatives.now c.loop-alternative.alternative-index c.alternative-item.result
    (store_of c.args.store.now) c.args.heap.now c.loop-alternative.text c.in_ok-line.line c.push.new.self
    c.loop-alternative-test.true c.alternative-item.is c.loop-alternative.invariant c.in_ok-line.ensures
    (c.in_ok-push.ensures.ok ∙ ap (λ t. c.loop-alternative.text ++ t) c.bytes.ensures)

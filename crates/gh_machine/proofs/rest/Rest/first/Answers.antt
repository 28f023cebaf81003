use Rattle.std.specs.Prelude.{◌-◌}
use Rattle.gh_machine.proofs.Rests.{next_is, counted}
use Rattle.gh_machine.proofs.rest.Rest.first.Goals as goal

pub returns : goal.returns
returns c =
    next_is c.self.inside.pieces.items (c.len-count.result - 1) c.index-block.result.now c.index-block-0.result
    c.args.self.now c.self.invariant
    (counted c.self.inside.pieces.items c.len-count.result _ c.len-count.ensures c.self.inside.pieces.ok.0
    c.if-count-eq0.false) c.index-block.ensures c.index-block-0.is c.self.view_is

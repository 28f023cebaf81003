use Rattle.std.proofs.Common.{sym, ◌∙◌, ap, refl, take, ◌-◌}
use Rattle.gh_machine.proofs.Rests.{counted_some, gone, shorter}
use Rattle.gh_machine.proofs.rest.drop_first.Goals as goal

pub returns-then-is_empty-clause-left : goal.returns-then-is_empty-clause-left
returns-then-is_empty-clause-left c =
    gone c.args.pieces.now.items c.pop.new.self.items (c.len-last.result - 1) c.index.result.now c.is_empty.result
    c.requires.open (counted_some c.args.pieces.now.items c.len-last.result _ c.len-last.ensures
    c.args.pieces.now.ok.0 c.requires.some) c.index.ensures c.is_empty.ensures c.if-is_empty.true
    (c.pop.ensures.rest ∙ ap (λ k. take (k - 1) c.args.pieces.now.items) (sym c.len-last.ensures))

pub returns-else-is_empty-clause-left : goal.returns-else-is_empty-clause-left
returns-else-is_empty-clause-left c =
    shorter c.args.pieces.now.items (c.len-last.result - 1) c.index.result.now _ c.requires.open
    (counted_some c.args.pieces.now.items c.len-last.result _ c.len-last.ensures c.args.pieces.now.ok.0
    c.requires.some) c.index.ensures refl

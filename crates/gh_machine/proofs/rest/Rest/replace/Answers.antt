use Rattle.std.proofs.Common.{◌∙◌, ap, drop, ◌++◌}
use Rattle.gh_machine.specs.Rests.{laid_out}
use Rattle.gh_machine.proofs.Rests.{last_first}
use Rattle.gh_machine.proofs.rest.Rest.replace.Goals as goal

pub returns-then-not-is_empty-clause-ok : goal.returns-then-not-is_empty-clause-ok
returns-then-not-is_empty-clause-ok c =
    ap laid_out c.push_reserved.ensures.items ∙ last_first c.drop_first.new.pieces.items c.args.block ∙
    ap (λ xs. c.args.block.now ++ xs)
    (c.drop_first.ensures.left ∙ ap (λ bs. drop 1 (laid_out bs)) c.in_ok-reserve.ensures.items
    ∙ ap (drop 1) c.self.view_is)

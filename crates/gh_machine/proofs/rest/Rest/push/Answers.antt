use Rattle.std.proofs.Common.{◌∙◌, ap, ◌++◌}
use Rattle.gh_machine.specs.Rests.{laid_out}
use Rattle.gh_machine.proofs.Rests.{last_first}
use Rattle.gh_machine.proofs.rest.Rest.push.Goals as goal

pub returns-in_ok-push-clause-ok : goal.returns-in_ok-push-clause-ok
returns-in_ok-push-clause-ok c =
    ap laid_out c.in_ok-push.ensures.items ∙ last_first c.self.inside.pieces.items c.args.block
    ∙ ap (λ xs. c.args.block.now ++ xs) c.self.view_is

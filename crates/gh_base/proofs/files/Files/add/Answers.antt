use Rattle.std.proofs.Common.{◌∙◌}
use Rattle.gh_base.proofs.FileLemmas.{added, left_after_push}
use Rattle.gh_base.proofs.files.Files.add.Goals as goal

pub returns-clause-added : goal.returns-clause-added
returns-clause-added c =
    added _ _ _ c.args.name.now c.args.bytes.now c.in_ok-push.ensures.items
    (c.in_ok-name.ensures.items ∙ c.as_bytes.ensures.value) c.in_ok-bytes.ensures.items c.requires

pub returns-clause-left : goal.returns-clause-left
returns-clause-left c =
    left_after_push _ _ _ c.args.self.now.begun c.args.self.now.at c.in_ok-push.ensures.items c.args.self.now.there

use Rattle.std.proofs.Common.{◌++◌, ◌∙◌, ap}
use Rattle.gh_lens.specs.Lines.{changes_text}
use Rattle.gh_lens.specs.Stories.{handed_text}
use Rattle.gh_lens.proofs.story.step_told.Goals as goal

pub returns : goal.returns
returns c =
    let e = c.in_ok-exchange.exchange in
    record {
      exchange = e;
      handed = c.in_ok-exchange.ensures;
      text_is =
          c.in_ok-push_handed.ensures
          ∙ ap (λ t. t ++ handed_text e)
          (c.in_ok-push_changes.ensures
          ∙ ap (λ t. t ++ changes_text c.args.before.now c.args.after.now) c.in_ok-text.ensures);
    }

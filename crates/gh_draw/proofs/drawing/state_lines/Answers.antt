use Rattle.std.proofs.Common.{subst, ◌∙◌, ◌++◌, ap}
use Rattle.gh_assert.specs.Stores.{AreDistinct}
use Rattle.gh_draw.specs.Drawn.{kept_lines}
use Rattle.gh_draw.proofs.Texts.{lines_told}
use Rattle.gh_draw.proofs.drawing.state_lines.Goals as goal

pub returns : goal.returns
returns c =
    let s = c.args.state.now in
    c.in_ok-push_lines.ensures.text ∙ ap (λ t. t ++ kept_lines s) c.new-text.ensures
    ∙ lines_told s (subst AreDistinct c.entries-entries.ensures.same c.entries-entries.ensures.distinct)

use Rattle.std.proofs.Common.{◌∙◌}
use Rattle.gh_draw.proofs.Scans.{no_number}
use Rattle.gh_draw.proofs.cursor.Cursor.number.Goals as goal

pub returns-in_err-value-clause-read : goal.returns-in_err-value-clause-read
returns-in_err-value-clause-read c =
    rw c.from_residual.ensures
    (no_number c.args.self.now.text.now c.digits_first.result c.digits_first.ensures
    (λ n h e. c.in_err-value.ensures n h (c.split_at.ensures.front ∙ e)))

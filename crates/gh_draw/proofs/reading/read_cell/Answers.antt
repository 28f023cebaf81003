use Rattle.std.proofs.Common.{None}
use Rattle.std.specs.Prelude.{codes}
use Rattle.gh_draw.specs.Reading.{ShowsCell}
use Rattle.gh_draw.proofs.Reader.{read_after, missing_after, above_missing, above_low}
use Rattle.gh_draw.proofs.reading.read_cell.Goals as goal

pub returns-in_err-take : goal.returns-in_err-take
returns-in_err-take c =
    rw c.from_residual.ensures
    (above_missing c.args.low c.args.cursor.now.text.now c.take.new.self.text.now
    (missing_after (codes " ") ShowsCell c.args.cursor.now.text.now c.take.new.self.text.now
    c.in_err-take.ensures.read))

pub returns-in_err-at : goal.returns-in_err-at
returns-in_err-at c =
    rw c.from_residual-in_err-at.ensures
    (above_missing c.args.low c.args.cursor.now.text.now c.cell.new.self.text.now
    (read_after (codes " ") ShowsCell c.args.cursor.now.text.now c.take.new.self.text.now c.cell.new.self.text.now
    None c.in_ok-take.ensures.read c.in_err-at.ensures.read))

pub returns-then-at-low : goal.returns-then-at-low
returns-then-at-low c =
    above_low c.args.low c.args.cursor.now.text.now c.cell.new.self.text.now _
    (c.take.new.self.text.now, c.in_ok-take.ensures.read, c.in_ok-at.ensures.read) c.if-at-low.true

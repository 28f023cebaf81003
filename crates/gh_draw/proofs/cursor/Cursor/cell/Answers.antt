use Rattle.std.proofs.Common.{None}
use Rattle.std.specs.Prelude.{codes}
use Rattle.gh_draw.specs.Reading.{ShowsNumber}
use Rattle.gh_draw.proofs.Reader.{read_after, missing_after, cell_missing_to}
use Rattle.gh_draw.proofs.cursor.Cursor.cell.Goals as goal

pub returns-in_err-take-clause-read : goal.returns-in_err-take-clause-read
returns-in_err-take-clause-read c =
    rw c.from_residual-in_err-take.ensures
    (cell_missing_to c.args.self.now.text.now c.number.new.self.text.now c.take.new.self.text.now c.in_ok-at.at
    c.in_ok-at.ensures.read (missing_after (codes "->") ShowsNumber c.number.new.self.text.now
    c.take.new.self.text.now c.in_err-take.ensures.read))

pub returns-in_err-to-clause-read : goal.returns-in_err-to-clause-read
returns-in_err-to-clause-read c =
    rw c.from_residual-in_err-to.ensures
    (cell_missing_to c.args.self.now.text.now c.number.new.self.text.now c.number-2.new.self.text.now c.in_ok-at.at
    c.in_ok-at.ensures.read
    (read_after (codes "->") ShowsNumber c.number.new.self.text.now c.take.new.self.text.now
    c.number-2.new.self.text.now None c.in_ok-take.ensures.read c.in_err-to.ensures.read))

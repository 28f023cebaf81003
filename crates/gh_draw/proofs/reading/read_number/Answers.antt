use Rattle.gh_draw.proofs.Reader.{condition_no_word, condition_no_end}
use Rattle.gh_draw.proofs.reading.read_number.Goals as goal

pub returns-in_err-take : goal.returns-in_err-take
returns-in_err-take c =
    rw c.from_residual.ensures
    (condition_no_word c.args.cursor.now.text.now c.take.new.self.text.now c.in_err-take.ensures.read)

pub returns-in_err-take-2 : goal.returns-in_err-take-2
returns-in_err-take-2 c =
    rw c.from_residual-in_err-take-2.ensures
    (condition_no_end c.args.cursor.now.text.now c.take.new.self.text.now c.number.new.self.text.now
    c.take-2.new.self.text.now c.in_ok-number.number c.in_ok-take.ensures.read c.in_ok-number.ensures.read
    c.in_err-take-2.ensures.read)

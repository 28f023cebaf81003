use Rattle.std.proofs.Common.{Some, None}
use Rattle.std.specs.Prelude.{codes}
use Rattle.gh_draw.specs.Reading.{After, ShowsNumber}
use Rattle.gh_draw.proofs.Reader.{read_after, missing_after}
use Rattle.gh_draw.proofs.cursor.Cursor.value.Goals as goal

pub returns-in_err-take-clause-read : goal.returns-in_err-take-clause-read
returns-in_err-take-clause-read c =
    rw c.from_residual.ensures
    (missing_after (codes " ") (After c.args.name.now (After (codes "=") ShowsNumber)) c.args.self.now.text.now
    c.take.new.self.text.now c.in_err-take.ensures.read)

pub returns-in_err-take-2-clause-read : goal.returns-in_err-take-2-clause-read
returns-in_err-take-2-clause-read c =
    rw c.from_residual-in_err-take-2.ensures
    (read_after (codes " ") (After c.args.name.now (After (codes "=") ShowsNumber)) c.args.self.now.text.now
    c.take.new.self.text.now c.take-2.new.self.text.now None c.in_ok-take.ensures.read
    (missing_after c.args.name.now (After (codes "=") ShowsNumber) c.take.new.self.text.now c.take-2.new.self.text.now
    c.in_err-take-2.ensures.read))

pub returns-in_err-take-3-clause-read : goal.returns-in_err-take-3-clause-read
returns-in_err-take-3-clause-read c =
    rw c.from_residual-in_err-take-3.ensures
    (read_after (codes " ") (After c.args.name.now (After (codes "=") ShowsNumber)) c.args.self.now.text.now
    c.take.new.self.text.now c.take-3.new.self.text.now None c.in_ok-take.ensures.read
    (read_after c.args.name.now (After (codes "=") ShowsNumber) c.take.new.self.text.now c.take-2.new.self.text.now
    c.take-3.new.self.text.now None c.in_ok-take-2.ensures.read
    (missing_after (codes "=") ShowsNumber c.take-2.new.self.text.now c.take-3.new.self.text.now
    c.in_err-take-3.ensures.read)))

pub returns-in_err-value-clause-read : goal.returns-in_err-value-clause-read
returns-in_err-value-clause-read c =
    rw c.from_residual-in_err-value.ensures
    (read_after (codes " ") (After c.args.name.now (After (codes "=") ShowsNumber)) c.args.self.now.text.now
    c.take.new.self.text.now c.number.new.self.text.now None c.in_ok-take.ensures.read
    (read_after c.args.name.now (After (codes "=") ShowsNumber) c.take.new.self.text.now c.take-2.new.self.text.now
    c.number.new.self.text.now None c.in_ok-take-2.ensures.read
    (read_after (codes "=") ShowsNumber c.take-2.new.self.text.now c.take-3.new.self.text.now c.number.new.self.text.now
    None c.in_ok-take-3.ensures.read c.in_err-value.ensures.read)))

pub returns-clause-read : goal.returns-clause-read
returns-clause-read c =
    read_after (codes " ") (After c.args.name.now (After (codes "=") ShowsNumber)) c.args.self.now.text.now
    c.take.new.self.text.now c.number.new.self.text.now (Some c.in_ok-value.value) c.in_ok-take.ensures.read
    (read_after c.args.name.now (After (codes "=") ShowsNumber) c.take.new.self.text.now c.take-2.new.self.text.now
    c.number.new.self.text.now (Some c.in_ok-value.value) c.in_ok-take-2.ensures.read
    (read_after (codes "=") ShowsNumber c.take-2.new.self.text.now c.take-3.new.self.text.now c.number.new.self.text.now
    (Some c.in_ok-value.value) c.in_ok-take-3.ensures.read c.in_ok-value.ensures.read))

use Rattle.std.proofs.Common.{arith}
use Rattle.gh_log.specs.Reading.{line_with}
use Rattle.gh_log.proofs.PlaceLemmas.{line_more, lines_fit}
use Rattle.gh_log.proofs.cursor.Reader.section.Goals as goal

pub overflow_cast-len : goal.overflow_cast-len
overflow_cast-len c =
    let fits =
    lines_fit c.args.number c.args.at c.args.self.now.rest.now c.lines.self.rest.now c.lines.lines
    c.lines.invariant.front c.requires.small in
    omega (arith, fits, c.len.ensures)

pub overflow_add-at-in-Err-line : goal.overflow_add-at-in-Err-line
overflow_add-at-in-Err-line c =
    let fits =
    lines_fit c.args.number c.args.at c.args.self.now.rest.now c.lines.self.rest.now c.lines.lines
    c.lines.invariant.front c.requires.small in
    omega (arith, fits, c.len.ensures)

pub lines-preserved : goal.lines-preserved
lines-preserved c =
    let more =
    line_more c.args.version c.args.number c.args.self.now.rest.now c.lines.self.rest.now c.line.new.self.rest.now
    c.lines.lines c.push.new.self (line_with c.line.new.parts c.in-Ok.kind) _
    c.lines.invariant.front c.lines.invariant.spelled c.in-Ok.ensures c.line-in-Ok.ensures
    c.in_ok-push-in-Ok.ensures.ok in
    record { front = more.front; spelled = more.spelled }

use Rattle.std.proofs.Common.{sym}
use Rattle.gh_draw.proofs.Scans.{digits_more}
use Rattle.gh_draw.proofs.cursor.digits_first.Goals as goal

pub loop-i-preserved : goal.loop-i-preserved
loop-i-preserved c =
    digits_more c.args.text.now c.loop-i.i c.loop-i-test.true c.loop-i.invariant
    (sym c.if-not-is_ascii_digit.ensures.value)

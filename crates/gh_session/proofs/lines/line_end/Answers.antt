use Rattle.std.proofs.Common.{arith}
use Rattle.gh_session.proofs.Cutting.{line_at, whole_line}
use Rattle.gh_session.proofs.lines.line_end.Goals as goal

pub returns-then-byte-eq10-clause-first : goal.returns-then-byte-eq10-clause-first
returns-then-byte-eq10-clause-first c =
    line_at c.args.text.now c.loop-i.i c.loop-i-test.true c.if-byte-eq10.true c.loop-i.invariant

pub returns-clause-first : goal.returns-clause-first
returns-clause-first c =
    whole_line c.args.text.now c.requires (λ k low. c.loop-i.invariant k (omega (arith, low, c.loop-i-test.false)))

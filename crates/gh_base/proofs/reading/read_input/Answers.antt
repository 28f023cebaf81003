use Rattle.std.proofs.Common.{rules, subst}
use Rattle.gh_base.specs.Reading.{told, ReadsTo}
use Rattle.gh_base.proofs.ReadingLemmas.{stands_after}
use Rattle.gh_base.proofs.reading.read_input.Goals as goal

pub returns-in_err-push-clause-reads : goal.returns-in_err-push-clause-reads
returns-in_err-push-clause-reads g c =
    subst (λ t. ReadsTo (told t c.args.name.now) c.args.limit c.from_residual-in_err-push.result
    (g.I.Inputs.left c.read.new.self)) c.in_ok-begin.ensures.table
    (stands_after (told (g.I.Inputs.table c.begin.new.self) c.args.name.now) (g.I.Inputs.left c.loop-text.inputs)
    (g.I.Inputs.left c.read.new.self) c.loop-text.text _ c.in_ok-count.count c.args.limit _
    c.from_residual-in_err-push.ensures.1 c.loop-text.invariant.reading c.in_ok-count.ensures.bytes.0 (search rules))

use Rattle.std.proofs.Common.{arith}
use Rattle.gh_log.proofs.AtomLemmas.{no_numbers, out_of_order}
use Rattle.gh_log.proofs.Exits.{exit}
use Rattle.gh_log.proofs.cursor.Reader.equality.Goals as goal

pub returns-in_err-a : goal.returns-in_err-a
returns-in_err-a c =
    exit _ _ _ _ _ _ (no_numbers 69 c.args.self.now.rest.now (λ e. absurd (omega (arith, e)))) c.in_err-a.ensures
    c.from_residual.ensures.1

pub returns-then-a-b : goal.returns-then-a-b
returns-then-a-b c = out_of_order _ _ c.args.self.now.rest.now _ c.in_ok-a.ensures c.if-a-b.true

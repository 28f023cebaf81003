use Rattle.std.proofs.Common.{arith}
use Rattle.gh_log.proofs.AtomLemmas.{no_numbers}
use Rattle.gh_log.proofs.Exits.{exit}
use Rattle.gh_log.proofs.cursor.Reader.allocation.Goals as goal

pub returns-in_err-version : goal.returns-in_err-version
returns-in_err-version c =
    exit _ _ _ _ _ _ (no_numbers 65 c.args.self.now.rest.now (λ e. absurd (omega (arith, e)))) c.in_err-version.ensures
    c.from_residual.ensures.1

use Rattle.std.proofs.Common.{refl, arith}
use Rattle.gh_log.proofs.NumberLemmas.{no_first, no_second}
use Rattle.gh_log.proofs.AtomLemmas.{no_numbers}
use Rattle.gh_log.proofs.Exits.{exit}
use Rattle.gh_log.proofs.cursor.Reader.hop.Goals as goal

pub returns-in_err-version : goal.returns-in_err-version
returns-in_err-version c =
    exit _ _ _ _ _ _ (λ h. no_numbers 72 c.args.self.now.rest.now (λ e. absurd (omega (arith, e)))
    (no_first 46 1 2 c.args.self.now.rest.now refl h)) c.in_err-version.ensures c.from_residual.ensures.1

pub returns-in_err-x : goal.returns-in_err-x
returns-in_err-x c =
    exit _ _ _ _ _ _ (λ h. no_numbers 72 c.args.self.now.rest.now (λ e. absurd (omega (arith, e)))
    (no_second 46 1 2 c.args.self.now.rest.now _ _ refl c.in_ok-version.ensures h)) c.in_err-x.ensures
    c.from_residual-in_err-x.ensures.1

use Rattle.std.proofs.Common.{arith}
use Rattle.gh_smt.proofs.AtomLemmas.{no_terms}
use Rattle.gh_log.proofs.Exits.{exit}
use Rattle.gh_smt.proofs.literals.read_hop.Goals as goal

pub returns-in_err-x : goal.returns-in_err-x
returns-in_err-x c =
    exit _ _ _ _ _ _ (no_terms 104 c.args.reader.now.rest.now _ c.number.new.self.rest.now
    (λ e. absurd (omega (arith, e))) c.in_ok-version.ensures) c.in_err-x.ensures c.from_residual-in_err-x.ensures.1

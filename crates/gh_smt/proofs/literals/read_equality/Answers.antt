use Rattle.gh_smt.proofs.AtomLemmas.{no_equality}
use Rattle.gh_log.proofs.Exits.{exit}
use Rattle.gh_smt.proofs.literals.read_equality.Goals as goal

pub returns-in_err-a : goal.returns-in_err-a
returns-in_err-a c =
    exit _ _ _ _ _ _ (no_equality c.args.reader.now.rest.now) c.in_err-a.ensures c.from_residual.ensures.1

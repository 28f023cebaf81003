use Rattle.gh_smt.proofs.AtomLemmas.{no_others}
use Rattle.gh_log.proofs.Exits.{exit}
use Rattle.gh_smt.proofs.literals.read_two.Goals as goal

pub returns-in_err-y : goal.returns-in_err-y
returns-in_err-y c =
    exit _ _ _ _ _ _ (no_others 1 c.args.reader.now.rest.now _ c.read_term.new.reader.rest.now c.in_ok-x.ensures)
    c.in_err-y.ensures c.from_residual-in_err-y.ensures.1

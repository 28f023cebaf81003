use Rattle.gh_log.proofs.NumberLemmas.{no_first, no_second}
use Rattle.gh_log.proofs.Exits.{exit}
use Rattle.gh_log.proofs.cursor.Reader.pair.Goals as goal

pub returns-in_err-first : goal.returns-in_err-first
returns-in_err-first c =
    exit _ _ _ _ _ _ (no_first c.args.mark 1 1 c.args.self.now.rest.now c.requires) c.in_err-first.ensures
    c.from_residual.ensures.1

pub returns-in_err-second : goal.returns-in_err-second
returns-in_err-second c =
    exit _ _ _ _ _ _ (no_second c.args.mark 1 1 c.args.self.now.rest.now _ _ c.requires c.in_ok-first.ensures)
    c.in_err-second.ensures c.from_residual-in_err-second.ensures.1

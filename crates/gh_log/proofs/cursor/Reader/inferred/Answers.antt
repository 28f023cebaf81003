use Rattle.gh_log.proofs.LineLemmas.{two_versions, no_hints}
use Rattle.gh_log.proofs.Exits.{exit}
use Rattle.gh_log.proofs.cursor.Reader.inferred.Goals as goal

pub returns-in_err-numbers : goal.returns-in_err-numbers
returns-in_err-numbers c =
    exit _ _ _ _ _ _ (no_hints c.args.version c.args.self.now.rest.now c.shown.new.clause.items
    c.shown.new.self.rest.now (two_versions c.args.version c.requires c.if-version-eq-WITHOUT_HINTS.false)
    c.in_ok-shown.ensures) c.in_err-numbers.ensures c.from_residual-in_err-numbers.ensures.1

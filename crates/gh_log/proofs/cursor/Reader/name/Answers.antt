use Rattle.gh_log.proofs.LineLemmas.{no_pair, no_terms, no_term, name_read}
use Rattle.gh_log.proofs.Exits.{exit}
use Rattle.gh_log.proofs.cursor.Reader.name.Goals as goal

pub returns-in_err-row : goal.returns-in_err-row
returns-in_err-row c =
    exit _ _ _ _ _ _ (no_pair c.args.self.now.rest.now) c.in_err-row.ensures c.from_residual.ensures.1

pub returns-in_err-terms : goal.returns-in_err-terms
returns-in_err-terms c =
    exit _ _ _ _ _ _ (no_terms c.args.self.now.rest.now c.pair.new.self.rest.now _ _ c.in_ok-row.ensures)
    c.in_err-terms.ensures.read c.from_residual-in_err-terms.ensures.1

pub returns-then-arity-eq0 : goal.returns-then-arity-eq0
returns-then-arity-eq0 c =
    no_term c.args.self.now.rest.now c.pair.new.self.rest.now _ _ _ _ _ c.in_ok-row.ensures c.in_ok-terms.ensures.read
    c.if-arity-eq0.true

pub returns : goal.returns
returns c =
    name_read c.args.self.now.rest.now c.pair.new.self.rest.now _ _ _ _ _ c.in_ok-row.ensures c.in_ok-terms.ensures.read
    c.in_ok-terms.ensures.padded c.if-arity-eq0.false

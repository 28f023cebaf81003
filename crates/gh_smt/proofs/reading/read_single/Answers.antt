use Rattle.gh_smt.proofs.AssertionLemmas.{no_single, no_single_end}
use Rattle.gh_log.proofs.Exits.{exit}
use Rattle.gh_smt.proofs.reading.read_single.Goals as goal

pub returns-in_err-lit : goal.returns-in_err-lit
returns-in_err-lit c =
    exit _ _ _ _ _ _ (no_single c.args.sizes c.args.reader.now.rest.now c.requires) c.in_err-lit.ensures
    c.from_residual.ensures.1

pub returns-then-not-skip : goal.returns-then-not-skip
returns-then-not-skip c =
    no_single_end c.args.sizes c.args.reader.now.rest.now c.read_lit.new.reader.rest.now c.in_ok-lit.lit c.requires
    c.in_ok-lit.ensures c.if-not-skip.ensures.1

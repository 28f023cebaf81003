use Rattle.std.proofs.Common.{arith, ap, length}
use Rattle.gh_smt.proofs.AssertionLemmas.{no_several, too_few}
use Rattle.gh_log.proofs.Exits.{exit}
use Rattle.gh_smt.proofs.reading.read_several.Goals as goal

pub returns-in_err-clause : goal.returns-in_err-clause
returns-in_err-clause c =
    exit _ _ _ _ _ _ (no_several c.args.sizes c.args.reader.now.rest.now) c.in_err-clause.ensures
    c.from_residual.ensures.1

pub returns-then-lits-lt-SEVERAL : goal.returns-then-lits-lt-SEVERAL
returns-then-lits-lt-SEVERAL c =
    let same = ap length c.lits.ensures in
    too_few c.args.sizes c.args.reader.now.rest.now c.in_ok-clause.clause _ c.in_ok-clause.ensures
    (omega (arith, same, c.if-lits-lt-SEVERAL.true))

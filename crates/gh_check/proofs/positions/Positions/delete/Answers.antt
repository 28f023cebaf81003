use Rattle.std.proofs.Common.{◌∙◌, get_or, sym}
use Rattle.std.proofs.lemmas.List.{get_or_default}
use Rattle.gh_check.proofs.KeptLemmas.{goes_more}
use Rattle.gh_check.proofs.positions.Positions.delete.Goals as goal

pub loop-position-preserved : goal.loop-position-preserved
loop-position-preserved c =
    let ps = c.args.positions.now in let i = c.loop-position.position-index in
    let n = get_or ps i 0 in
    goes_more c.args.self.now c.loop-position.self c.mark.new.self ps i n c.loop-position-test.true
    (get_or_default ps i 0 n c.loop-position-test.true) c.loop-position.invariant
    (sym c.stands.ensures ∙ c.if-not-stands.false) c.mark.ensures

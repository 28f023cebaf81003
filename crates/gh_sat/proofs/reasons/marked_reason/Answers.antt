use Rattle.gh_sat.proofs.ReasonLemmas.{unmarked_read}
use Rattle.gh_sat.proofs.reasons.marked_reason.Goals as goal

pub returns-else-index-marks : goal.returns-else-index-marks
returns-else-index-marks c =
    let m = c.args.marks.now in
    unmarked_read m.round m.stamps.items c.args.trail.now.steps c.args.place c.index.result.now _ c.requires.within
    c.requires.long c.index.ensures c.if-index-marks.false

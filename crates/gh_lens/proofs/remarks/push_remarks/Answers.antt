use Rattle.gh_lens.proofs.Meetings.{adds_none, adds_next}
use Rattle.gh_lens.proofs.remarks.push_remarks.Goals as goal

pub loop-one-init : goal.loop-one-init
loop-one-init c = adds_none c.args.remarks.now.items

pub loop-one-preserved : goal.loop-one-preserved
loop-one-preserved c =
    adds_next c.args.stated.now c.loop-one.one-index c.one-item.result c.args.remarks.now.items c.loop-one.remarks.items
    c.push.new.self.items c.in_ok-remark.remark c.loop-one-test.true c.one-item.is c.loop-one.invariant
    c.in_ok-remark.ensures c.in_ok-push.ensures.items

use Rattle.gh_session.proofs.Placings.{opened}
use Rattle.gh_session.proofs.edits.whole.Goals as goal

pub loop-piece-init : goal.loop-piece-init
loop-piece-init c =
    opened c.args.edits.now.head c.push.new.self c.new-text.result c.bytes.result.now c.as_slice-piece-items.result.now
    c.in_ok-pieces.pieces.items c.args.edits.now.edits.items c.as_slice.result.now c.args.upto
    c.in_ok-push.ensures.ok c.new-text.ensures c.bytes.ensures c.as_slice-piece-items.ensures.value
    c.in_ok-pieces.ensures c.as_slice.ensures.value

use Rattle.gh_log.proofs.LineLemmas.{one_ground}
use Rattle.gh_log.proofs.cursor.Reader.ground.Goals as goal

pub returns-then-not-take-2 : goal.returns-then-not-take-2
returns-then-not-take-2 c =
    one_ground c.args.self.now.rest.now c.take.new.self.rest.now c.number.new.self.rest.now c.in_ok-number.number
    c.if-not-take.ensures c.in_ok-number.ensures c.if-not-take-2.ensures.1

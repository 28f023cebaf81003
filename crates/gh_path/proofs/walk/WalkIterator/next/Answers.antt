use Rattle.gh_path.proofs.LeftLemmas.{none_lent}
use Rattle.gh_path.proofs.walk.WalkIterator.next.Goals as goal

pub returns-in-Ok-false-clause-steps : goal.returns-in-Ok-false-clause-steps
returns-in-Ok-false-clause-steps c =
    none_lent c.args.self.now c.advance.new.self c.advance.result c.in-Ok-false.field-0 c.in-Ok-false.is
    c.in-Ok-false.field-0-test c.advance.ensures.next

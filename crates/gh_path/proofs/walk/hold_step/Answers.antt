use Rattle.gh_path.proofs.HeldLemmas.{held_put}
use Rattle.gh_path.proofs.walk.hold_step.Goals as goal

pub returns-clause-held : goal.returns-clause-held
returns-clause-held c = λ held.
    held_put c.args.nodes.now c.args.held.now.items c.put.new.items.items c.args.steps.now.items c.put-2.new.items.items
    c.args.place c.args.origin c.in_ok-kept.kept
    (rw c.step-step.ensures at c.in_ok-kept.ensures) (c.in_ok-put.ensures.there, c.in_ok-put.ensures.last)
    (c.in_ok-put-2.ensures.there, c.in_ok-put-2.ensures.last) held

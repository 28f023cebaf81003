use Rattle.gh_path.proofs.route.Route.arrive.Goals as goal

pub returns-in-Found : goal.returns-in-Found
returns-in-Found c = λ ws come. rw c.in-Found.is at (c.in_ok-turn.ensures.come ws (c.loop-asked.invariant ws come))

pub returns-in-Over : goal.returns-in-Over
returns-in-Over c = λ ws come. rw c.in-Over.is at (c.in_ok-turn.ensures.come ws (c.loop-asked.invariant ws come))

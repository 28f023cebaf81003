use Rattle.std.proofs.Common.{◌≡◌, ◌∙◌, ◌+◌, ◌<◌, ap, arith, Some, None}
use Rattle.gh_path.specs.Routes.{weight, weights, onward_weight}
use Rattle.gh_path.proofs.RouteLemmas.{look_dead, look_end, look_move, look_guard, look_fork, weight_some, weight_below}
use Rattle.gh_path.proofs.RouteLemmas.{weights_push}
use Rattle.gh_path.proofs.route.Route.look.Goals as goal

pub returns-in-DeadEnd-clause-come : goal.returns-in-DeadEnd-clause-come
returns-in-DeadEnd-clause-come c =
    λ nodes ws there come. look_dead nodes c.args.place c.args.self.now.taken.items ws (there ∙ ap Some c.in-DeadEnd.is)
    come

pub returns-in-DeadEnd-clause-less : goal.returns-in-DeadEnd-clause-less
returns-in-DeadEnd-clause-less c = λ below. omega (arith, weight_some c.args.place)

pub returns-in-Ends-clause-come : goal.returns-in-Ends-clause-come
returns-in-Ends-clause-come c =
    λ nodes ws there come. look_end nodes c.args.place c.args.self.now.taken.items c.in-Ends.asked ws
    (there ∙ ap Some c.in-Ends.is) come

pub returns-in_ok-go-in-Moves-clause-come : goal.returns-in_ok-go-in-Moves-clause-come
returns-in_ok-go-in-Moves-clause-come c = λ nodes ws there come.
    rw c.in_ok-go-in-Moves.ensures.onward
    (look_move nodes c.args.place c.args.self.now.taken.items c.go.new.self.taken.items c.in-Moves.step c.in-Moves.next
    ws (there ∙ ap Some c.in-Moves.is) (rw c.new.ensures at c.in_ok-go-in-Moves.ensures.taken) come)

pub returns-in_ok-go-in-Moves-clause-less : goal.returns-in_ok-go-in-Moves-clause-less
returns-in_ok-go-in-Moves-clause-less c = λ below.
    let j = c.in-Moves.next in
    let i = c.args.place in
    let before : j < i = rw c.in-Moves.is at below in
    let total : weights c.go.new.self.taken.items ≡ weights c.args.self.now.taken.items + 0 =
    ap weights c.in_ok-go-in-Moves.ensures.taken
    ∙ weights_push c.args.self.now.taken.items (record { origin = c.new.result; other = None }) in
    let here : onward_weight c.go.new.self.onward ≡ weight j = ap onward_weight c.in_ok-go-in-Moves.ensures.onward in
    omega (arith, total, here, weight_below j i before, weight_some j)

pub returns-in-Guarded-clause-come : goal.returns-in-Guarded-clause-come
returns-in-Guarded-clause-come c = λ nodes ws there come.
    look_guard nodes c.args.place c.args.self.now.taken.items c.in-Guarded.asked c.in-Guarded.step c.in-Guarded.next ws
    (there ∙ ap Some c.in-Guarded.is) come

pub returns-in_ok-go-in-Fork-clause-come : goal.returns-in_ok-go-in-Fork-clause-come
returns-in_ok-go-in-Fork-clause-come c = λ nodes ws there come.
    rw c.in_ok-go-in-Fork.ensures.onward
    (look_fork nodes c.args.place c.args.self.now.taken.items c.go-in-Fork.new.self.taken.items c.in-Fork.left
    c.in-Fork.equal c.in-Fork.right c.in-Fork.yes c.in-Fork.no ws
    (there ∙ ap Some c.in-Fork.is) (rw c.new-in-Fork.ensures at c.in_ok-go-in-Fork.ensures.taken) come)

pub returns-in_ok-go-in-Fork-clause-less : goal.returns-in_ok-go-in-Fork-clause-less
returns-in_ok-go-in-Fork-clause-less c = λ below.
    let j = c.in-Fork.yes in
    let m = c.in-Fork.no in
    let i = c.args.place in
    let before = rw c.in-Fork.is at below in
    let total : weights c.go-in-Fork.new.self.taken.items ≡ weights c.args.self.now.taken.items + weight m =
    ap weights c.in_ok-go-in-Fork.ensures.taken
    ∙ weights_push c.args.self.now.taken.items (record { origin = c.new-in-Fork.result; other = Some m }) in
    let here : onward_weight c.go-in-Fork.new.self.onward ≡ weight j =
    ap onward_weight c.in_ok-go-in-Fork.ensures.onward in
    omega (arith, total, here, weight_below j i before.0, weight_below m i before.1, weight_some j, weight_some m)

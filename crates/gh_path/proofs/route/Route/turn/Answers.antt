use Rattle.std.proofs.Common.{◌≡◌, ◌∙◌, ◌+◌, ap, sym, subst, arith, Some, None}
use Rattle.std.specs.Prelude.{slice_get}
use Rattle.gh_path.specs.Routes.{AreToCome, weight, weights, onward_weight}
use Rattle.gh_path.specs.declared.route.Onward.TheVariants as place
use Rattle.gh_path.proofs.RouteLemmas.{go_past, weights_push, shown_node}
use Rattle.gh_path.proofs.route.Route.turn.Goals as goal

pub returns-in_ok-go-in-Past-clause-come : goal.returns-in_ok-go-in-Past-clause-come
returns-in_ok-go-in-Past-clause-come c = λ ws come.
    let ts = c.args.self.now.taken.items in
    rw c.in_ok-go-in-Past.ensures.onward
    (go_past c.args.nodes.now ts c.go.new.self.taken.items c.in-Past.place c.in-Past.next ws
    (rw c.new.ensures at c.in_ok-go-in-Past.ensures.taken)
    (subst (λ o. AreToCome c.args.nodes.now ts o ws) c.in-Past.is come))

pub returns-in_ok-go-in-Past-clause-less : goal.returns-in_ok-go-in-Past-clause-less
returns-in_ok-go-in-Past-clause-less c =
    let total : weights c.go.new.self.taken.items ≡ weights c.args.self.now.taken.items + 0 =
    ap weights c.in_ok-go-in-Past.ensures.taken
    ∙ weights_push c.args.self.now.taken.items (record { origin = c.new.result; other = None }) in
    let on : onward_weight c.go.new.self.onward ≡ weight c.in-Past.next =
    ap onward_weight c.in_ok-go-in-Past.ensures.onward in
    let was : onward_weight c.args.self.now.onward ≡ weight c.in-Past.next + 1 = ap onward_weight c.in-Past.is in
    omega (arith, total, on, was)

pub returns-in_ok-come-in-Node-clause-come : goal.returns-in_ok-come-in-Node-clause-come
returns-in_ok-come-in-Node-clause-come c = λ ws come.
    let ns = c.args.nodes.now in
    let i = c.in-Node.place in
    let there : AreToCome ns c.args.self.now.taken.items (place.Node i) ws =
    subst (λ o. AreToCome ns c.args.self.now.taken.items o ws) c.in-Node.is come in
    let n = shown_node ns i there.are_ahead.0 there.are_ahead.1 in
    let at : slice_get ns i ≡ Some c.at-node.result = n.1 ∙ ap Some (sym (c.at-node.ensures.there n.0 n.1)) in
    c.in_ok-come-in-Node.ensures.come ns ws at there

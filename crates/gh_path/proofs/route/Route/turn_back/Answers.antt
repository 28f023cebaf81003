use Rattle.std.proofs.Common.{◌≡◌, ◌∙◌, ◌+◌, ◌++◌, ◌∷◌, [], ap, subst, arith, None}
use Rattle.gh_path.specs.Routes.{AreBehind, weight, weights, other_weight, onward_weight}
use Rattle.gh_path.proofs.RouteLemmas.{back_to, back_over, weights_push}
use Rattle.gh_path.proofs.route.Route.turn_back.Goals as goal

pub returns-in-Some-other-clause-come : goal.returns-in-Some-other-clause-come
returns-in-Some-other-clause-come c = λ nodes ws behind.
    let back = c.loop-last.invariant.behind nodes ws behind in
    let at : AreBehind nodes [] (c.pop.new.self.items ++ c.in-Some.last ∷ []) ws =
    subst (λ ts. AreBehind nodes [] ts ws) c.in-Some.ensures.items back in
    rw c.in_ok-go.ensures.onward
    (back_to nodes c.pop.new.self.items c.go.new.self.taken.items c.in-Some.last c.in-Some-other.place ws
    c.in-Some-other.is
    (rw c.other_way.ensures at c.in_ok-go.ensures.taken) at)

pub returns-in-Some-other-clause-less : goal.returns-in-Some-other-clause-less
returns-in-Some-other-clause-less c =
    let popped : weights c.loop-last.self.taken.items
    ≡ weights c.pop.new.self.items + other_weight c.in-Some.last.other =
    ap weights c.in-Some.ensures.items ∙ weights_push c.pop.new.self.items c.in-Some.last in
    let here : other_weight c.in-Some.last.other ≡ weight c.in-Some-other.place = ap other_weight c.in-Some-other.is in
    let total : weights c.go.new.self.taken.items ≡ weights c.pop.new.self.items + 0 =
    ap weights c.in_ok-go.ensures.taken
    ∙ weights_push c.pop.new.self.items (record { origin = c.other_way.result; other = None }) in
    let on : onward_weight c.go.new.self.onward ≡ weight c.in-Some-other.place =
    ap onward_weight c.in_ok-go.ensures.onward in
    omega (arith, popped, here, total, on, c.loop-last.invariant.weighs)

pub loop-last-preserved : goal.loop-last-preserved
loop-last-preserved c =
    let popped : weights c.loop-last.self.taken.items
    ≡ weights c.pop.new.self.items + other_weight c.in-Some.last.other =
    ap weights c.in-Some.ensures.items ∙ weights_push c.pop.new.self.items c.in-Some.last in
    let none : other_weight c.in-Some.last.other ≡ 0 = ap other_weight c.in_default-other.is in
    record {
      behind = λ nodes ws behind.
          let back = c.loop-last.invariant.behind nodes ws behind in
          let at : AreBehind nodes [] (c.pop.new.self.items ++ c.in-Some.last ∷ []) ws =
          subst (λ ts. AreBehind nodes [] ts ws) c.in-Some.ensures.items back in
          back_over nodes c.pop.new.self.items c.in-Some.last ws c.in_default-other.is at;
      weighs = omega (arith, popped, none, c.loop-last.invariant.weighs);
    }

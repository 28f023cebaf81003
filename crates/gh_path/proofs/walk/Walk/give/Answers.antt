use Rattle.std.proofs.Common.{◌≡◌, ◌∙◌, ◌∷◌, map, sym, ap}
use Rattle.gh_path.specs.Kept.{step_of, start_of, check_of}
use Rattle.gh_path.specs.Routes.{steps_taken}
use Rattle.gh_path.specs.Shown.{AreHeld, asked_of, steps_from}
use Rattle.gh_path.specs.Walks.{IsAt}
use Rattle.gh_path.specs.declared.condition.Condition as condition
use Rattle.gh_path.specs.declared.route.Taken.{Taken}
use Rattle.gh_path.proofs.LeftLemmas.{left_with, kept_is}
use Rattle.gh_path.proofs.walk.Walk.give.Goals as goal

pub returns-in_default-clause-next : goal.returns-in_default-clause-next
returns-in_default-clause-next c = λ P cs left. rw c.in_default.is at (c.in_ok-asked.ensures.come P cs left)

pub returns-clause-next : goal.returns-clause-next
returns-clause-next c = λ P cs left.
    let s = c.reach.new.self in
    let a = c.in-Some.asked in
    let at : IsAt P s a cs = rw c.in-Some.is at (c.in_ok-asked.ensures.come P cs left) in
    let ns = s.starts.now.nodes in
    let ts = s.route.taken.items in
    let rs = c.hold.new.steps.items in
    let k = c.in_ok-self.field-0 in
    let these : c.hold.new.held.items ≡ map (λ (t : Taken). t.origin) ts =
    rw c.as_slice.ensures.value at c.in_ok-hold.ensures.these in
    let held : AreHeld ns c.hold.new.held.items rs = c.in_ok-hold.ensures.held at.left.held in
    let steps : map step_of rs ≡ steps_taken ns ts = held ∙ ap (steps_from ns) these in
    let kept : condition.Condition =
    record { procedure = s.present.procedure; start = s.present.start; steps = c.hold.new.steps; check = k } in
    let is =
    kept_is s.present.procedure (start_of s.present.start) (map step_of rs) (steps_taken ns ts) (check_of k)
    (asked_of a) steps c.in_ok-self.ensures in (
      at.rest,
      at.are ∙ ap (λ d. d ∷ at.rest) (sym is),
      left_with P s at.rest c.hold.new.held kept at.left held,
    )

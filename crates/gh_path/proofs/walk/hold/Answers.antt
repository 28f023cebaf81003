use Rattle.std.proofs.Common.{None, false, length, get_or, refl, sym, subst, take}
use Rattle.std.proofs.lemmas.List.{get_or_default}
use Rattle.gh_path.specs.Shown.{AreHeld}
use Rattle.gh_path.specs.declared.route.Taken.{Taken}
use Rattle.gh_path.proofs.HeldLemmas.{held_more, held_all, held_take}
use Rattle.gh_path.proofs.walk.hold.Goals as goal

pub loop-place-preserved : goal.loop-place-preserved
loop-place-preserved c =
    let ts = c.args.taken.now in
    let i = c.loop-place.place in
    let none : Taken = record { origin = record { place = 0; turned = false }; other = None } in
    let t : Taken = get_or ts i none in
    record {
      these =
          held_more c.loop-place.held.items c.hold_step.new.held.items ts i t c.loop-place-test.true
          c.loop-place.invariant.these (get_or_default ts i none t c.loop-place-test.true)
          c.in_ok-hold_step.ensures.there;
      held = λ before. c.in_ok-hold_step.ensures.held (c.loop-place.invariant.held before);
    }

pub returns-clause-these : goal.returns-clause-these
returns-clause-these c =
    held_all c.loop-place.held.items c.truncate.new.self.items c.args.taken.now (length c.args.taken.now)
    c.loop-place.place refl c.loop-place-test.false c.loop-place.auto.place-end
    c.loop-place.invariant.these c.truncate.ensures.items

pub returns-clause-held : goal.returns-clause-held
returns-clause-held c = λ before.
    let ns = c.args.nodes.now in
    let n = length c.args.taken.now in
    subst (λ os. AreHeld ns os c.truncate-2.new.self.items) (sym c.truncate.ensures.items)
    (subst (λ rs. AreHeld ns (take n c.loop-place.held.items) rs) (sym c.truncate-2.ensures.items)
    (held_take ns c.loop-place.held.items c.loop-place.steps.items n (c.loop-place.invariant.held before)))

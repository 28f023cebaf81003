use Rattle.std.proofs.Common.{[], refl, sym, subst}
use Rattle.gh_path.specs.Shown.{AreHeld}
use Rattle.gh_path.proofs.LeftLemmas.{at_left}
use Rattle.gh_path.proofs.walk.Walk.at_start.Goals as goal

pub returns-clause-at : goal.returns-clause-at
returns-clause-at c = λ P cs count from.
    let ns = c.args.starts.now.nodes in
    let blank : AreHeld ns [] c.without_steps.result.steps.items =
    subst (λ rs. AreHeld ns [] rs) (sym c.without_steps.ensures) refl in
    let held : AreHeld ns c.new.result.items c.without_steps.result.steps.items =
    subst (λ os. AreHeld ns os c.without_steps.result.steps.items) (sym c.new.ensures.items) blank in
    record { count = count; left = λ less. at_left P _ cs (from less) (λ g shows. c.begin.ensures ns g shows) held }

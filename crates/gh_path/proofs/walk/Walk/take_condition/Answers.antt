use Rattle.std.proofs.Common.{[], refl, sym, subst}
use Rattle.gh_path.specs.Shown.{AreHeld}
use Rattle.gh_path.specs.declared.condition.Condition as kept
use Rattle.gh_path.proofs.LeftLemmas.{left_with}
use Rattle.gh_path.proofs.walk.Walk.take_condition.Goals as goal

pub returns-clause-left : goal.returns-clause-left
returns-clause-left c = λ P cs left.
    let ns = c.args.self.now.starts.now.nodes in
    left_with P c.args.self.now cs c.clear.new.self c.replace.new.dest left
    (subst (λ os. AreHeld ns os c.replace.new.dest.steps.items) (sym c.clear.ensures.items)
    (subst (λ (r : kept.Condition). AreHeld ns [] r.steps.items) (sym c.replace.ensures.after)
    (subst (λ rs. AreHeld ns [] rs) (sym c.without_steps.ensures) refl)))

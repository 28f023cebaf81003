use Rattle.std.proofs.Common.{subst}
use Rattle.std.specs.Prelude.{List, All}
use Rattle.gh_trace.specs.declared.state.State.{State}
use Rattle.gh_draw.specs.Drawn.{HasValues}
use Rattle.gh_draw.proofs.drawing.draw.Goals as goal

pub returns-clause-values : goal.returns-clause-values
returns-clause-values c =
    subst (λ (ss : List State). All HasValues ss) c.as_slice.ensures.value c.in_ok-push_states.ensures.values

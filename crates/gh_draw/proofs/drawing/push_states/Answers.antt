use Rattle.std.proofs.Common.{arith}
use Rattle.std.proofs.lemmas.Grind.{common_steps}
use Rattle.gh_draw.specs.Drawn.{HasValues}
use Rattle.gh_draw.proofs.Values.{one_more, all_done}
use Rattle.gh_draw.proofs.drawing.push_states.Goals as goal

pub loop-number-preserved : goal.loop-number-preserved
loop-number-preserved c = record {
  text = grind (arith, common_steps);
  values =
      one_more HasValues c.args.states.now c.loop-number.number c.index-states-number.result c.index-states-number.is
      c.loop-number-test.true c.loop-number.invariant.values c.in_ok-push_state.ensures.values;
}

pub returns-clause-values : goal.returns-clause-values
returns-clause-values c =
    all_done HasValues c.args.states.now c.loop-number.number c.loop-number-test.false c.loop-number.invariant.values

use Rattle.std.proofs.Common.{◌≡◌, ◌++◌, drop, take}
use Rattle.std.specs.Prelude.{All}
use Rattle.gh_draw.specs.Drawn.{kept_texts, HasValues}
use Rattle.gh_draw.proofs.drawing.push_states.Given as goal

abbrev pub invariant-loop-number : goal.invariant-loop-number
invariant-loop-number l = record {
  text : l.out ++ kept_texts l.number (drop l.number l.states) ≡ l.initial.out ++ kept_texts 0 l.states;
  values : All HasValues (take l.number l.states);
}

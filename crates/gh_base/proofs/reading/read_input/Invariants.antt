use Rattle.std.proofs.Common.{◌≡◌, ◌≤◌, ◌+◌, true, ◌-◌, length}
use Rattle.gh_base.specs.Outside.{MakesAtMost, AddsName}
use Rattle.gh_base.specs.Reading.{told, IsReading}
use Rattle.gh_base.proofs.reading.read_input.Given as goal

abbrev pub invariant-loop-text : goal.invariant-loop-text
invariant-loop-text g l = record {
  within : length l.text ≤ l.limit;
  reading : IsReading (told (g.I.Inputs.table l.initial.inputs) l.name) l.text (g.I.Inputs.left l.inputs);
  table : g.I.Inputs.table l.inputs ≡ g.I.Inputs.table l.initial.inputs;
  begun : g.I.Inputs.begun l.inputs ≡ true;
  calm : g.I.Inputs.faults l.inputs ≡ g.I.Inputs.faults l.initial.inputs;
  few : MakesAtMost (length l.text + 1) (g.I.Inputs.calls l.fn.inputs) (g.I.Inputs.calls l.inputs);
  named : AddsName (g.I.Inputs.names l.fn.inputs) (g.I.Inputs.names l.inputs) l.name;
}

abbrev pub decreases-loop-text : goal.decreases-loop-text
decreases-loop-text g l = l.limit + 1 - length l.text

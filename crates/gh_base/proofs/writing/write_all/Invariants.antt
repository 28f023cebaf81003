use Rattle.std.proofs.Common.{◌≡◌, ◌≤◌, ◌-◌, length, take}
use Rattle.gh_base.specs.Outside.{MakesAtMost}
use Rattle.std.specs.Io.KnownBytes.{Appends}
use Rattle.gh_base.proofs.writing.write_all.Given as goal

abbrev pub invariant-loop-done : goal.invariant-loop-done
invariant-loop-done g l = record {
  within : l.done ≤ length l.text;
  written : Appends (g.S.Sink.written l.initial.out) (g.S.Sink.written l.out) (take l.done l.text);
  calm : g.S.Sink.faults l.out ≡ g.S.Sink.faults l.initial.out;
  few : MakesAtMost l.done (g.S.Sink.calls l.initial.out) (g.S.Sink.calls l.out);
}

abbrev pub decreases-loop-done : goal.decreases-loop-done
decreases-loop-done g l = length l.text - l.done

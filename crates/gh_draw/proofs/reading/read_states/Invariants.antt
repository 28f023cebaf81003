use Rattle.std.proofs.Common.{length}
use Rattle.gh_draw.specs.Reading.{ShowsStates}
use Rattle.gh_draw.proofs.Going.{Goes}
use Rattle.gh_draw.proofs.reading.read_states.Given as goal

abbrev pub invariant-states : goal.invariant-states
invariant-states l =
    Goes (ShowsStates l.names (length l.states.items) l.cursor.text.now)
    (ShowsStates l.names 0 l.initial.cursor.text.now) l.states.items

abbrev pub decreases-states : goal.decreases-states
decreases-states l = length l.cursor.text.now

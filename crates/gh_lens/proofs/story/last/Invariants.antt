use Rattle.std.proofs.Common.{◌≡◌, drop, map}
use Rattle.gh_trace.specs.Kept.{state_of}
use Rattle.gh_trace.specs.Traces.{last_state}
use Rattle.gh_lens.proofs.story.last.Given as goal

abbrev pub invariant-loop-other : goal.invariant-loop-other
invariant-loop-other l =
    last_state (state_of l.last) (map state_of (drop l.other-index l.others))
    ≡ last_state (state_of l.first) (map state_of l.others)
